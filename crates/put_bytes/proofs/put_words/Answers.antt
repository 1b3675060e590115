-- `put_bytes::put_words` meets its contract: the words that are left make the whole. Assumes nothing.
use Rattle.put_bytes.proofs.PutLoop.{more, ends, words_more, words_none}
use Rattle.put_bytes.proofs.put_words.Goals as goal

pub loop-word-preserved : goal.loop-word-preserved
loop-word-preserved c = more c.loop-word.invariant c.put_le-to.ensures (words_more _ _ c.loop-word-test.true)

pub returns : goal.returns
returns c = ends c.loop-word.invariant (words_none _ _ c.loop-word-test.false)
