use Rattle.std.proofs.Common.{sym, ◌∙◌}
use Rattle.console.specs.Words.{blank}
use Rattle.console.proofs.Parted.{emptied}
use Rattle.console.proofs.words.Words.is_empty.Goals as goal

pub returns : goal.returns
returns c = c.is_empty.ensures ∙ sym (emptied blank c.args.self.now.rest.now _ c.skip_blanks.ensures.is)
