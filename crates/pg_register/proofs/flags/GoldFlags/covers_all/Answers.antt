use Rattle.std.proofs.Common.{◌≡◌, not, ap, ◌∙◌}
use Rattle.pg_register.specs.Flag.{brings_news}
use Rattle.pg_register.proofs.Joining.{covers_flags-stays}
use Rattle.pg_register.proofs.flags.GoldFlags.covers_all.Goals as goal

pub returns-clause-no_change : goal.returns-clause-no_change
returns-clause-no_change c =
    let mine = c.as_slice.ensures.flags in
    let theirs = c.as_slice-2.ensures.flags in
    let news : c.brings_news.result ≡ brings_news c.args.self.now c.args.other.now =
    c.brings_news.ensures ∙ ap (λ xs. brings_news xs c.as_slice-2.result.now) mine ∙ ap (brings_news c.args.self.now) theirs in
    covers_flags-stays c.args.self.now c.args.other.now (not c.brings_news.result) c.as_slice-2.ensures.by_server (ap not news)
