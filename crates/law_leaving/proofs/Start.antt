-- The start: what is held was taken, each edge is named back, and nothing is owed.
use Rattle.std.proofs.Common.{ℕ, ◌≡◌, ◌≢◌, ◌≤◌, ◌<◌, ◌==◌, Bool, true, false, cond, List, [], ◌∷◌, ◌++◌, Option, None, Some, option_map, refl, sym, ap, subst, ◌∙◌, inl, inr, arith}
use Rattle.std.specs.Prelude.{Contains}
use Rattle.std.proofs.lemmas.Bool.{eqb-true, false≢true}
use Rattle.std.proofs.lemmas.Option.{none-some, same_Some}
use Rattle.pg_run.specs.pg_base.declared.id.FileId.{FileId}
use Rattle.pg_run.specs.pg_base.Id.{is_same_file}
use Rattle.pg_run.proofs.pg_base.Orders.{is_same_file-true}
use Rattle.pg_run.proofs.pg_content.Members.{map_among}
use Rattle.pg_run.specs.pg_edges.declared.key.Key.{Key}
use Rattle.pg_run.specs.pg_edges.declared.key.Key.TheVariants as key
use Rattle.pg_run.specs.pg_edges.Edges.{is_listed}
use Rattle.pg_run.specs.pg_entries.declared.cell.Cell.{Cell}
use Rattle.pg_run.specs.pg_entries.declared.cell.Cell.TheVariants as cell
use Rattle.pg_run.specs.pg_entries.declared.entry.Entry.{Entry}
use Rattle.pg_run.specs.pg_event.declared.event.Event.{Event}
use Rattle.pg_run.specs.theory_flood.Protocol.{Covers, Has, KeepsEdges}
use Rattle.pg_run.specs.theory_flood.Server.{Replica as Seen, Slot}
use Rattle.pg_run.proofs.theory_flood.Worlds.{start_keeps}
use Rattle.pg_run.specs.pg_intent.declared.intent.Intent.{Intent}
use Rattle.pg_run.specs.pg_intent.declared.intent.Intent.TheVariants as intent
use Rattle.theory_leaving.specs.Laws.{IsStart}
use Rattle.theory_leaving.specs.Moment.{IsNamedBack}
use Rattle.pg_run.specs.pg_names.declared.attributes.Attributes.{Attributes}
use Rattle.pg_run.specs.pg_names.Names.{cell_at as entry_at, or_blank, own_of, own_or_blank}
use Rattle.pg_run.specs.theory_flood_pieces.Seen.{cells, plain, seen}
use Rattle.pg_run.specs.theory_flood_pieces.Whole.{IsEdge, IsOther}
use Rattle.pg_run.proofs.theory_flood_pieces.Graphs.{clean_are}
use Rattle.pg_run.proofs.theory_flood_pieces.Listed.{listed_first}
use Rattle.pg_run.proofs.theory_flood_pieces.Start.{Root, first_born, no_entry, start_kept}
use Rattle.pg_run.proofs.theory_flood_pieces.Stores.{plain_at}
use Rattle.pg_run.specs.pg_register.declared.flag.Flag.{Flag}
use Rattle.pg_run.specs.pg_register.Flag.{flag_of}
use Rattle.pg_run.specs.pg_register.Place.{root, root_place}
use Rattle.pg_run.specs.pg_replica.Replica.{cell_at as head_at}
use Rattle.pg_run.specs.pg_replica.Replicas.{or_nothing}
use Rattle.pg_run.specs.pg_replica.Root.{clean_edges, first_root}
use Rattle.pg_run.specs.pg_store.Cells.{entry_cell, flag_cell, version_cell}
use Rattle.pg_run.specs.pg_store.Start.{first_flags, first_names, root_own}
use Rattle.pg_run.specs.pg_store.Store.{new_store}
use Rattle.pg_run.specs.Run.{start}
use Rattle.pg_run.specs.Took.{Take, first_takes}
use Rattle.pg_run.specs.Took.Take.{TookFlag}
use Rattle.pg_run.specs.Took.Taker.{Itself}
use Rattle.pg_run.proofs.Found.{flag_found, listed_edge}
use Rattle.law_leaving.specs.Seen.{leaving}
use Rattle.law_leaving.specs.Taken.{IsTaken, site, taking}
use Rattle.law_leaving.proofs.Lists.{member_at}
use Rattle.law_leaving.proofs.Taken.{flag_among, place_among}

-- ---- what is held was taken

abbrev First : ℕ → List Take
First n = first_takes (first_flags n)

own_is : (n : ℕ) (file : FileId) (t : Bool) → t ≡ true → or_blank file (own_of (cond t (Some (Root n)) None)) ≡ root_own n
own_is n file true here = refl
own_is n file false here = absurd (false≢true here)

heads_none : (n s : ℕ) (k : Key) (t : Bool) (c : Cell)
    → option_map plain (version_cell (head_at (or_nothing (cond t (Some (first_root s n)) None)).content.heads k)) ≡ Some c → ⊥
heads_none n s k true c h = none-some c h
heads_none n s k false c h = none-some c h

flag_plain : (o : Option Flag) (c : Cell) → option_map plain (flag_cell o) ≡ Some c → (f : Flag) × (o ≡ Some f) × (c ≡ cell.Flag f)
flag_plain None c h = absurd (none-some c h)
flag_plain (Some f) c h = (f, refl, sym (same_Some (cell.Flag f) c h))

entry_none : (o : Option Entry) (sure : Bool) (c : Cell) → ((e : Entry) → o ≡ Some e → ⊥) → option_map plain (entry_cell o sure) ≡ Some c → ⊥
entry_none None sure c none h = none-some c h
entry_none (Some e) sure c none h = none e refl

root_taken : (n s : ℕ) (file : FileId) → is_same_file file root ≡ true → (k : Key) (c : Cell) → plain_at (new_store n s) file k ≡ Some c
    → IsTaken (First n) file c
root_taken n s file here key.Place c is =
    let own : own_or_blank (first_names n s) file ≡ root_own n = own_is n file (is_same_file file root) here in
    let same : cell.Place root_place ≡ c =
    ap (λ (o : Attributes). cell.Place o.place) (sym own) ∙ same_Some (cell.Place (own_or_blank (first_names n s) file).place) c is in
    let P : FileId → Type 0 = (λ f. IsTaken (First n) f (cell.Place root_place)) in
    subst (λ d. IsTaken (First n) file d) same
    (subst P (sym (is_same_file-true file root here)) (λ news. place_among Itself root root_place (First n) (inr (inl refl))))
root_taken n s file here (key.Flag u) c is =
    let own : own_or_blank (first_names n s) file ≡ root_own n = own_is n file (is_same_file file root) here in
    let f = flag_plain (flag_of (own_or_blank (first_names n s) file).flags u) c is in
    let found = flag_found (first_flags n) u f.0 (ap (λ (o : Attributes). flag_of o.flags u) (sym own) ∙ f.1) in
    let P : FileId → Type 0 = (λ g. IsTaken (First n) g (cell.Flag f.0)) in
    subst (λ d. IsTaken (First n) file d) (sym f.2)
    (subst P (sym (is_same_file-true file root here))
    (flag_among Itself root f.0 (First n) (inr (inr (map_among (TookFlag Itself root) (first_flags n) f.0 found.0)))))
root_taken n s file here (key.Entry child) c is =
    absurd (entry_none (entry_at (first_names n s) file child) _ c (λ e there. no_entry n child e (is_same_file file root) there) is)
root_taken n s file here (key.Version stamp) c is = absurd (heads_none n s (key.Version stamp) (is_same_file file root) c is)

held_taken : (n s : ℕ) (file : FileId) (x : Seen Cell) (k : Key) (c : Cell) (t : Bool) → is_same_file file root ≡ t
    → option_map (seen (new_store n s) file) (cond t (Some (first_root s n)) None) ≡ Some x → x.cells k ≡ Some c
    → IsTaken (First n) file c
held_taken n s file x k c true here e at =
    root_taken n s file here k c (ap (λ (z : Seen Cell). z.cells k) (same_Some (seen (new_store n s) file (first_root s n)) x e) ∙ at)
held_taken n s file x k c false here e at = absurd (none-some x e)

covers_taken : (n s : ℕ) (q : Slot) (c : Cell) → Has cells (new_store n s) q c → Covers cells (new_store n q.peer) q c
    → Covers taking (site (start n) q.peer) q c
covers_taken n s q c has (inl there) =
    inl (there.0, held_taken n s q.file has.replica q.key c (is_same_file q.file root) refl has.is has.cell)
covers_taken n s q c has (inr over) = inr over

pub start_taken : (n : ℕ) → KeepsEdges taking (site (start n)) []
start_taken n =
    start_keeps taking (site (start n))
    (λ s q c h tag. covers_taken n s q c h ((start_kept n).edges s q c h tag))
    (λ s x h. h)

-- ---- each edge is named back

no_split : (before : List Event) (event : Event) (behind : List Event) → [] ≡ before ++ event ∷ behind → ⊥
no_split [] event behind h = let z : [] ≡ event ∷ behind = h in cc
no_split (e ∷ before) event behind h = let z : [] ≡ e ∷ (before ++ event ∷ behind) = h in cc

none_owed : (i : Intent) → Contains [] i → ⊥
none_owed i h = let lt : h.0 < 0 = h.1 in omega arith

apart_is : (s t : ℕ) → t ≢ s → (s == t) ≡ false
apart_is s t apart = by (s == t) refl
  where
    by : (u : Bool) → (s == t) ≡ u → u ≡ false
    by true same = absurd (apart (sym (eqb-true s t same)))
    by false other = refl

first_other : (n s t birth : ℕ) → is_listed (clean_edges s n) t birth ≡ true → IsOther n s t
first_other n s t birth listed =
    let e = listed_edge (clean_edges s n) t birth listed in
    subst (IsOther n s) e.to (member_at (IsEdge n s) (clean_edges s n) e.edge (clean_are n s).each e.among).other

module _ (n : ℕ) (file : FileId) where
  back_by : (s own t birth : ℕ) (x : Seen Cell) (u : Bool) → is_same_file file root ≡ u → (1 ≤ s) × (s ≤ n)
      → option_map (seen (new_store n s) file) (cond u (Some (first_root s n)) None) ≡ Some x → x.birth ≡ own
      → is_listed x.edges t birth ≡ true
      → IsNamedBack (leaving n file) [] (site (start n) t) birth s own
  back_by s own t birth x true here real e born listed =
      let same = same_Some (seen (new_store n s) file (first_root s n)) x e in
      let l : is_listed (clean_edges s n) t birth ≡ true = ap (λ (z : Seen Cell). is_listed z.edges t birth) same ∙ listed in
      let other = first_other n s t birth l in
      let one : 1 ≡ own = ap (λ (z : Seen Cell). z.birth) same ∙ born in
      let back : is_listed (clean_edges t n) s own ≡ true =
      ap (is_listed (clean_edges t n) s) (sym one) ∙ listed_first t n s real.0 real.1 (apart_is s t other.apart) in
      let there : option_map (seen (new_store n t) file) (cond (is_same_file file root) (Some (first_root t n)) None) ≡ Some (seen (new_store n t) file (first_root t n)) =
      ap (λ v. option_map (seen (new_store n t) file) (cond v (Some (first_root t n)) None)) here in
      record {
        replica = seen (new_store n t) file (first_root t n);
        held = (there, sym (first_born s n t birth l));
        listed = back;
      }
  back_by s own t birth x false here real e born listed = absurd (none-some x e)

  pub starts : IsStart (leaving n file) []
  starts = record {
    silent = refl;
    none = λ t birth y went. no_split went.went.before went.went.event went.went.behind went.went.split;
    owes = λ t birth s own h. none_owed (intent.Bye file birth s own) h;
    back = λ s own t birth x real held listed. back_by s own t birth x (is_same_file file root) refl real held.0 held.1 listed;
  }
