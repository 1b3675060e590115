-- `elements::letters_of` meets its contract: a code divided by 256 gives back its two letters. Assumes nothing.
use Rattle.elements.proofs.Codes.{letters_by_code}
use Rattle.elements.proofs.letters_of.Goals as goal

pub returns : goal.returns
returns c = letters_by_code _ c.code_of-code.ensures
