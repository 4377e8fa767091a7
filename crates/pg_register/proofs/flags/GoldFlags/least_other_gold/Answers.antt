use Rattle.std.proofs.Common.{◌≡◌, Option, true, subst, sym, ◌≤◌}
use Rattle.std.specs.List.{All}
use Rattle.std.specs.Option.{IfSome, option_map}
use Rattle.pg_register.specs.declared.flag.Flag.{Flag}
use Rattle.pg_register.specs.Flag.{is_live_other}
use Rattle.pg_register.proofs.Indexes.{first-least}
use Rattle.pg_register.proofs.flags.GoldFlags.least_other_gold.Goals as goal

pub returns-in-Some-clause-least : goal.returns-in-Some-clause-least
returns-in-Some-clause-least c =
    let p = is_live_other c.args.server c.args.removed.now in
    let Q : Option Flag → Type 0 = (λ o. IfSome (option_map (λ (g : Flag). g.server) o) (λ q. All (λ (g : Flag). p g ≡ true → q ≤ g.server) c.args.self.now)) in
    subst Q (sym c.in-Some.ensures.first) (first-least p c.args.self.now c.first_other_live.ensures.by_server)
