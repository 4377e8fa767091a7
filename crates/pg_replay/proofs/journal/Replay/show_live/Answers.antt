use Rattle.std.proofs.Common.{◌≡◌, ◌++◌, refl, subst, sym}
use Rattle.std.proofs.lemmas.Option.{same_Some}
use Rattle.pg_store.specs.declared.store.Store.{Store}
use Rattle.pg_trace.specs.JournalLine.{ArePrinted, journal_spelling}
use Rattle.pg_world.specs.Played.{held}
use Rattle.pg_replay.specs.Shown.{HoldsSuited, held_lines}
use Rattle.pg_replay.proofs.journal.Replay.show_live.Goals as goal

pub returns-clause-lines : goal.returns-clause-lines
returns-clause-lines c =
    let a = c.args.self.now in
    let p = a.world in
    let server = c.args.server in
    let id = c.args.id.now in
    let same : c.in-Some.store.now ≡ held p server = same_Some _ _ (c.in-Some.ensures.held c.requires.server.0 c.requires.server.1) in
    let P : Store → Type 0 = (λ s. c.write_held.new.out ≡ a.out ++ journal_spelling (held_lines server s id)) in
    let Q : Store → Type 0 = (λ s. ArePrinted (held_lines server s id)) in
    let R : Store → Type 0 = (λ s. HoldsSuited s id) in
    record {
      world = refl;
      going = c.requires.going;
      servers = refl;
      number = refl;
      form = refl;
      marks = refl;
      text = subst P same c.in_ok-write_held.ensures.text;
      printed = subst Q same (c.in_ok-write_held.ensures.spelled (subst R (sym same) (λ x h. c.entries_suit.ensures.places p.servers p.events server id x h)));
    }
