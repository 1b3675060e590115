-- What callers may know of an annotation: where it ends, and what is read and measured of one that is spelled. Assumes nothing.
pub use Rattle.read_annotation.proofs.Ends.{EndsAnnotation, at_end, at_comma, behind_adduct, behind_charge, behind_deviation}
pub use Rattle.read_annotation.proofs.Prefixes.{prefix_length, prefix_read, prefix_read_lem}
pub use Rattle.read_annotation.proofs.Sequences.{sequence_read, sequence_read_lem}
pub use Rattle.read_annotation.proofs.Fronts.{behind_flag, front_text, prefix_fault, ion_fault, behind_prefix, front_read, front_read_lem}
pub use Rattle.read_annotation.proofs.Adducts.{adduct_read, adduct_read_lem}
pub use Rattle.read_annotation.proofs.Middles.{EndsMiddle, behind_ion, behind_losses, behind_isotopes, losses_fault, isotopes_fault, adduct_fault, middle_read, losses_ends, adduct_ends, middle_read_lem}
pub use Rattle.read_annotation.proofs.Tails.{charge_fault, deviation_fault, confidence_fault, tail_read, tail_read_lem}
pub use Rattle.read_annotation.proofs.Follows.{ends_middle, ends_ion}
pub use Rattle.read_annotation.proofs.Wholes.{first, second, third, isotopes_on, adduct_on, text_is, fault1, fault2}
pub use Rattle.read_annotation.proofs.Readings.{fault0, parts_read, parts_read_lem}
pub use Rattle.read_annotation.proofs.Sized.{behind_ion_lem, size_read_lem, annotation_size_lem}
pub use Rattle.read_annotation.proofs.Spelled.{freely_spelled, Measures, measure_read, measure_within}
