-- `put_bytes::put_words` meets its contract: the words that are left make the whole. Assumes nothing.
use Rattle.put_bytes.proofs.PutLoop.{PutSoFar}
use Rattle.rules.specs.Stored.{little}
use Rattle.lang.specs.Parts.{flat}
use lib.ListN.{drop}
use Rattle.put_bytes.proofs.put_words.Given as goal

abbrev pub invariant-loop-word : goal.invariant-loop-word
invariant-loop-word l = PutSoFar l.initial.out l.at (flat (little 8) l.words) l.out l.to (flat (little 8) (drop l.word-index l.words))
