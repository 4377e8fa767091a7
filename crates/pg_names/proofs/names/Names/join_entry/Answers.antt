use Rattle.std.proofs.Common.{◌≡◌, Option, Some, sym, ap, ◌∙◌}
use Rattle.pg_names.specs.Names.{InodeValue, NamesValue, is_entry_new, known}
use Rattle.pg_names.proofs.Joining.{entry_joined, none_joined}
use Rattle.pg_names.proofs.names.Names.join_entry.Goals as goal

pub returns-clause-joined : goal.returns-clause-joined
returns-clause-joined c =
    let there : known c.args.self.now c.args.dir.now ≡ Some c.in-Some.held.now = ap (λ (s : NamesValue). known s c.args.dir.now) (sym c.self.view_is) ∙ sym c.in-Some.ensures in
    c.in_ok-set_entry.ensures.ok ∙ entry_joined c.args.self.now c.args.dir.now c.in-Some.held.now _ c.args.entry there c.in_ok-joined.ensures.cell c.in_ok-joined.ensures.child

pub returns-clause-news : goal.returns-clause-news
returns-clause-news c =
    let there : known c.args.self.now c.args.dir.now ≡ Some c.in-Some.held.now = ap (λ (s : NamesValue). known s c.args.dir.now) (sym c.self.view_is) ∙ sym c.in-Some.ensures in
    c.in_ok-joined.ensures.news ∙ sym (ap (λ (o : Option InodeValue). is_entry_new o c.args.entry) there)

pub returns-in_default-clause-joined : goal.returns-in_default-clause-joined
returns-in_default-clause-joined c =
    none_joined c.args.self.now c.args.dir.now c.args.entry (ap (λ (s : NamesValue). known s c.args.dir.now) (sym c.self.view_is) ∙ sym c.in_default.ensures)

pub returns-in_default-clause-news : goal.returns-in_default-clause-news
returns-in_default-clause-news c =
    sym (ap (λ (o : Option InodeValue). is_entry_new o c.args.entry) (ap (λ (s : NamesValue). known s c.args.dir.now) (sym c.self.view_is) ∙ sym c.in_default.ensures))
