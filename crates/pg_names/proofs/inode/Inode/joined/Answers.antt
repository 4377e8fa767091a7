use Rattle.std.proofs.Common.{◌≡◌, Bool, true, false, cond, All, List, [], ◌∷◌, Option, Some, refl, sym, ap, ◌∙◌}
use Rattle.std.proofs.lemmas.List.Elements.{All-head, All-tail}
use Rattle.std.proofs.lemmas.Option.{none-some, same_Some}
use Rattle.pg_base.specs.declared.id.FileId.{FileId}
use Rattle.pg_base.specs.Id.{is_same_file}
use Rattle.pg_base.proofs.Orders.{is_same_file-true}
use Rattle.pg_entries.specs.declared.entry.Entry.{Entry}
use Rattle.pg_entries.specs.Entry.{entry_of}
use Rattle.pg_names.proofs.inode.Inode.joined.Goals as goal

-- what is found under an id is the cell of that child
child_by : (t : Bool) (k : FileId) (e : FileId × Entry) (x : Entry) (rest : Option Entry) → is_same_file k e.0 ≡ t → e.0 ≡ e.1.child → cond t (Some e.1) rest ≡ Some x → (rest ≡ Some x → x.child ≡ k) → x.child ≡ k
child_by true k e x rest same own h more = sym (ap (λ (y : Entry). y.child) (same_Some e.1 x h)) ∙ sym own ∙ sym (is_same_file-true k e.0 same)
child_by false k e x rest same own h more = more h

child_of : (es : List (FileId × Entry)) (k : FileId) (x : Entry) → All (λ e. e.0 ≡ e.1.child) es → entry_of es k ≡ Some x → x.child ≡ k
child_of [] k x all h = absurd (none-some x h)
child_of (e ∷ es) k x all h =
    let Own : FileId × Entry → Type 0 = λ f. f.0 ≡ f.1.child in
    child_by (is_same_file k e.0) k e x (entry_of es k) refl (All-head Own e es all) h (child_of es k x (All-tail Own e es all))

pub returns-in_ok-news-in-Some-clause-child : goal.returns-in_ok-news-in-Some-clause-child
returns-in_ok-news-in-Some-clause-child c =
    c.join.ensures.child ∙ ap (λ (e : Entry). e.child) c.in_ok-joined-in-Some.ensures
    ∙ child_of c.self.inside.entries c.args.entry.child c.in-Some.held.now c.as_map-by_child.ensures.by_child.own (sym c.in-Some.ensures)
