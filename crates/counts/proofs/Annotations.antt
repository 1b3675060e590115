-- How many of each kind an annotation of a table has. Assumes nothing.
use lib.ListN.{length}
use Rattle.rules.specs.Annotations.{TableAnnotation}
use Rattle.rules.specs.Stored.{isotope_records, annotation_units, annotation_texts}
use Rattle.counts.specs.declared.Counts.{Counts}

abbrev pub annotation_counts : TableAnnotation → Counts
annotation_counts a =
    record {
      annotations = 1;
      losses = length a.losses;
      isotopes = length (isotope_records a.isotopes);
      items = length a.adduct;
      units = length (annotation_units a);
      text = length (annotation_texts a);
    }
