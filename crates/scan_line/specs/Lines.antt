-- The editions of lines, of the code and of the rules. Assumes nothing.
use Rattle.rules.specs.Editions.{LineEdition, first_lines, second_lines}
use Rattle.scan_line.specs.declared.Lines.{Lines}
use Rattle.scan_line.specs.declared.Lines.TheVariants.{First, Second}

abbrev pub lines_in : Lines → LineEdition
lines_in First = first_lines
lines_in Second = second_lines
