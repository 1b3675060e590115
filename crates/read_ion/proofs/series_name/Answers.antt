-- `read_ion::series_name` meets its contract: by two letters, by one, or none. Assumes nothing.
use Rattle.read_ion.proofs.Found.{letters_two, letters_one, letters_none}
use Rattle.read_ion.proofs.series_name.Goals as goal

pub returns-in-Some : goal.returns-in-Some
returns-in-Some c = letters_two c.args.s.now c.byte_of-a.ensures c.byte_of.ensures c.two_letters.ensures c.in-Some.is

pub returns-in-Some-one_letter : goal.returns-in-Some-one_letter
returns-in-Some-one_letter c = letters_one c.args.s.now c.byte_of-a.ensures c.byte_of.ensures c.two_letters.ensures c.in-None.is c.one_letter.ensures c.in-Some-one_letter.is

pub returns-in-None-one_letter : goal.returns-in-None-one_letter
returns-in-None-one_letter c = letters_none c.args.s.now c.byte_of-a.ensures c.byte_of.ensures c.two_letters.ensures c.in-None.is c.one_letter.ensures c.in-None-one_letter.is
