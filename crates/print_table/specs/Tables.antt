-- The line of a stored table, by the edition that its header names. Assumes nothing.
use Rattle.std.specs.Prelude.{ℕ, zero, suc, cond, List, [], ◌++◌, eqb}
use Rattle.rules.specs.Bytes.{bytes}
use Rattle.rules.specs.Limits.{max_annotations}
use Rattle.rules.specs.Layout.{annotation_pair_at}
use Rattle.rules.specs.Editions.{Edition}
use Rattle.layout.specs.Editions.{edition_of}
use Rattle.store_sections.specs.Headers.{starts_of}
use Rattle.print_parts.specs.Numbers.{number_at}
use Rattle.print_table.specs.Parts.{StoredParts, stored_parts_at, edition_in, counts_at}
use Rattle.print_table.specs.Annotations.{annotation_printed, parts_behind}

-- before annotation number i
unfoldable pub comma_printed : ℕ → List ℕ
comma_printed i = cond (eqb i 0) [] (bytes ",")

-- n annotations of a table of an edition, of which the first is number i
unfoldable pub annotations_printed : Edition → ℕ → ℕ → StoredParts → List ℕ
annotations_printed edition i zero p = []
annotations_printed edition i (suc n) p = comma_printed i ++ (annotation_printed p ++ annotations_printed edition (suc i) n (parts_behind edition p))

-- n annotations from where the sections of that edition begin
abbrev pub printed_in : Edition → ℕ → List ℕ → List ℕ
printed_in edition n table = annotations_printed edition 0 n (stored_parts_at table (starts_of edition (counts_at table)))

unfoldable pub printed_table : List ℕ → List ℕ
printed_table table = printed_in (edition_of (edition_in table)) (number_at table annotation_pair_at max_annotations) table
