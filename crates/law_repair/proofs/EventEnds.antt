-- What the end of an event leaves of removals, and of what was made; and where a clean edge leads.
use Rattle.std.proofs.Common.{ℕ, ◌≡◌, ◌≢◌, ◌<◌, ◌==◌, ◌||◌, ◌&&◌, nat_lt, true, List, drop, length, Option, None, Some, is_some, refl, sym, ap, subst, ◌∙◌, arith}
use Rattle.std.proofs.lemmas.Bool.Decides.{nat_tests}
use Rattle.pg_run.specs.pg_base.declared.id.FileId.{FileId}
use Rattle.pg_run.specs.pg_edges.declared.key.Key.{Key}
use Rattle.pg_run.specs.pg_edges.Edges.{keys_at}
use Rattle.pg_run.specs.pg_house.House.{house}
use Rattle.pg_run.specs.pg_house.Work.{state_of}
use Rattle.pg_run.proofs.pg_house.Keys.{rules_by}
use Rattle.pg_run.specs.pg_msg.declared.update.Update.{Update}
use Rattle.pg_run.specs.pg_msg.declared.work.Work.{Work}
use Rattle.pg_run.specs.pg_names.Names.{NamesValue, with_flag}
use Rattle.pg_run.proofs.pg_names.Lookups.{update_frame}
use Rattle.pg_run.specs.pg_register.declared.flag.Flag.{Flag}
use Rattle.pg_run.specs.pg_replica.declared.replica.Replica.{Replica}
use Rattle.pg_run.specs.pg_replica.Replica.{are_none, is_clean_to}
use Rattle.pg_run.specs.pg_replica.Replicas.{or_nothing}
use Rattle.pg_run.specs.pg_pieces.Done.{Done}
use Rattle.pg_run.specs.pg_pieces.Making.{own_next}
use Rattle.pg_run.specs.pg_cells.Settling.{rules, settle}
use Rattle.pg_run.proofs.pg_cells.Settled.{settle_keeps}
use Rattle.pg_run.proofs.pg_intentions.Steady.{begin_end_stays}
use Rattle.pg_run.specs.pg_server.declared.input.Input.{Input}
use Rattle.pg_run.specs.pg_server.Local.{Effect, effect, first_effect, intended, settled, takes_effect}
use Rattle.pg_run.specs.pg_store.declared.store.Store.{Store}
use Rattle.pg_run.specs.pg_store.Links.{is_clean}
use Rattle.pg_run.specs.pg_store.Seen.{removed_of}
use Rattle.pg_run.specs.pg_store.Store.{is_newer_flag, put_flag, replica_at, take_flag, with_names}
use Rattle.pg_run.specs.theory_flood_pieces.Whole.{IsWhole}
use Rattle.pg_run.proofs.theory_flood_pieces.Choices.{chosen}
use Rattle.pg_run.proofs.theory_flood_pieces.Touching.{same_names}
use Rattle.pg_run.proofs.Event.{effect_is, store_is}
use Rattle.pg_run.proofs.Found.{listed_edge}
use Rattle.law_repair.proofs.QuietEdges.{edge_other}

-- ---- numbers

pub older_less : (b n c m : ℕ) → b < c → (nat_lt b c || (b == c && nat_lt n m)) ≡ true
older_less b n c m less = grind (arith, nat_tests)

pub older_is : (b n c m : ℕ) → b ≡ c → n < m → (nat_lt b c || (b == c && nat_lt n m)) ≡ true
older_is b n c m same less = grind (arith, nat_tests)

-- ---- removals behind the first effect

pub taken_removed : (b : Store) (f : FileId) (g : Flag) → removed_of (take_flag b f g) ≡ removed_of b
taken_removed b f g =
    chosen (λ (c : Store). removed_of c ≡ removed_of b) (is_newer_flag b f g) (put_flag b f g) b (update_frame b.names f (with_flag g)).removed refl

rules_removed : (b : Store) (w : Work) → removed_of (rules b w).store ≡ removed_of b
rules_removed b w =
    let st = house w.now (state_of b.names w) in
    ap (λ (m : NamesValue). m.removed) (same_names (with_names b st.names) (drop (length w.touched) st.work.touched)) ∙ (rules_by w.now (state_of b.names w)).1

settled_removed : (b : Store) (w : Work) → removed_of (settle b w).store ≡ removed_of b
settled_removed b w =
    settle_keeps (λ (c : Store) (v : Work). removed_of c ≡ removed_of b) (λ c v k. rules_removed c v ∙ k)
    (λ c f v less k. taken_removed c f (own_next c f true) ∙ k) b w refl

pub end_removed : (a : Store) (asked : Input) → removed_of (effect a asked).store ≡ removed_of (first_effect a asked).store
end_removed a asked =
    let d = first_effect a asked in
    ap (λ (b : Store). removed_of b) (store_is a asked)
    ∙ chosen (λ (e : Done). removed_of e.store ≡ removed_of d.store) (takes_effect a asked) (intended (settled d)) d
    (ap (λ (m : NamesValue). m.removed) (begin_end_stays (settled d).store (settled d).work).names ∙ settled_removed d.store d.work) refl

-- what holds of all that is made by the end of the rules holds of all
pub end_made : (P : List Update → Type 0) (a : Store) (asked : Input) → P (first_effect a asked).work.made → P (settled (first_effect a asked)).work.made
    → P (effect a asked).out.made
end_made P a asked first all =
    let d = first_effect a asked in
    subst P (sym (ap (λ (e : Effect). e.out.made) (effect_is a asked)))
    (chosen (λ (e : Done). P e.work.made) (takes_effect a asked) (intended (settled d)) d
    (subst P (sym (begin_end_stays (settled d).store (settled d).work).made) all) first)

-- ---- a clean edge leads to another server

listed_by : (o : Option (List (Key × ℕ))) → are_none o ≡ true → is_some o ≡ true
listed_by None h = h
listed_by (Some ks) h = refl

pub clean_other : (n s : ℕ) (a : Store) (file : FileId) (x : Replica) → IsWhole n s a → replica_at a file ≡ Some x → (peer birth : ℕ)
    → is_clean a file peer birth ≡ true → peer ≢ s
clean_other n s a file x whole is peer birth clean =
    let here : is_clean_to x peer birth ≡ true = ap (λ (o : Option Replica). is_clean_to (or_nothing o) peer birth) (sym is) ∙ clean in
    let edge = listed_edge x.edges peer birth (listed_by (keys_at x.edges peer birth) here) in
    let other = (edge_other n s a file x edge.edge whole is edge.among).apart in
    λ same. other (edge.to ∙ same)
