-- `print_parts::name_of` meets its contract: bytes of the name that the record says. Assumes nothing.
use mathlib.Core.Path.{ap, ◌∙◌}
use Rattle.changes.specs.Contents.{content_bytes}
use Rattle.print_parts.proofs.Tests.{name_told}
use Rattle.print_parts.proofs.name_of.Goals as goal

pub returns : goal.returns
returns c = c.name_bytes.ensures ∙ ap content_bytes c.content_of.ensures ∙ name_told c.args.l.now
