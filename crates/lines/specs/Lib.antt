pub mod Relabels
