-- Births where a replica goes, and that births move one way.
use Rattle.std.proofs.Common.{ℕ, ◌≡◌, ◌≤◌, ◌<◌, ◌&&◌, ◌⊎◌, arith, Bool, true, false, cond, not, List, Option, None, Some, is_some, inl, inr, refl, sym, ap, subst, ◌∙◌}
use Rattle.std.specs.Option.{option_map}
use Rattle.std.specs.BTreeMap.{is_at}
use Rattle.std.proofs.lemmas.Bool.{false≢true}
use Rattle.pg_run.specs.pg_base.declared.id.FileId.{FileId}
use Rattle.pg_run.specs.pg_base.declared.stamp.Stamp.{Stamp}
use Rattle.pg_run.specs.pg_base.Id.{file_cmp}
use Rattle.pg_run.proofs.pg_base.Orders.{is_same_file-refl, is_same_file-true}
use Rattle.pg_run.specs.pg_edges.declared.edge.Edge.{Edge}
use Rattle.pg_run.specs.pg_intent.declared.intent.Intent.{Intent}
use Rattle.pg_run.specs.pg_intent.declared.key.IntentKey.TheVariants as intent_key
use Rattle.pg_run.specs.pg_intent.Intent.{key_of}
use Rattle.pg_run.specs.pg_intent.Intents.{begun}
use Rattle.pg_run.specs.pg_intent.Key.{is_same_key}
use Rattle.pg_run.specs.pg_msg.declared.message.Ends.{Ends}
use Rattle.pg_run.specs.pg_msg.declared.message.Message.{Message}
use Rattle.pg_run.specs.pg_msg.declared.message.Message.TheVariants as message
use Rattle.pg_run.specs.pg_msg.declared.work.Work.{Work}
use Rattle.pg_run.specs.pg_names.Names.{InodeValue, known}
use Rattle.pg_run.specs.pg_replica.declared.replica.Replica.{Replica}
use Rattle.pg_run.proofs.pg_replica.Going.{replica_behind}
use Rattle.pg_run.specs.pg_store.declared.store.Store.{Store}
use Rattle.pg_run.specs.pg_store.Beginning.{let_go}
use Rattle.pg_run.specs.pg_store.Births.{birth_of, fill_at, has_birth, is_pending}
use Rattle.pg_run.specs.pg_store.Store.{is_held, replica_at, replica_of}
use Rattle.pg_run.specs.pg_store.Together.{BirthsMove}
use Rattle.pg_run.proofs.pg_store.Going.{born_left, go_births, go_together}
use Rattle.pg_run.proofs.pg_store.Over.{goes_over, known_behind, none_fills}
use Rattle.pg_run.proofs.pg_store.Pairs.{intents_as_before}
use Rattle.pg_run.specs.pg_pieces.Done.{Done, idle}
use Rattle.pg_run.specs.pg_pieces.Intending.{begin_intent}
use Rattle.pg_run.specs.pg_pieces.Parting.{stays_for}
use Rattle.pg_run.specs.pg_graph.Leaving.{begin_byes, bye_to, goes, goes_now, goes_or_stays, leave_ok, may_leave, without_leave}
use Rattle.pg_run.proofs.pg_graph.LeaveOk.{byes_by, stays_not}
use Rattle.pg_run.proofs.pg_intentions.Standing.{begun_other}
use Rattle.pg_run.proofs.theory_flood_pieces.Choices.{decided}
use Rattle.pg_run.proofs.Bags.{All-every}
use Rattle.law_births.proofs.Ends.{ends}
use Rattle.pg_run.specs.Births.{StaysOrGoes}
use Rattle.law_births.proofs.Has.{Goes, Has, IsAlone, as_was, born_of, from_has, held_born, none_new, pending_has, to_has, unheld}
use Rattle.law_births.proofs.Here.{of_birth}
use Rattle.law_births.proofs.Moving.{AnyWhy, Keeps, Moves, WentOff, Why, keeps_same, moves_itself, moves_stay, some_shape, stay_moves, stays_moves}
use Rattle.law_births.proofs.Pieces.{Shape, Stays, ended_stays, shape, shape_at, stays_itself, stays_then}

pub born_of_shape : (o : Option Replica) (n : ℕ) (es : List (ℕ × ℕ)) → option_map shape o ≡ Some (n, es)
    → option_map (λ (x : Replica). x.birth) o ≡ Some n
born_of_shape None n es e = absurd (let z : ◌≡◌ {A = Option Shape} None (Some (n, es)) = e in cc)
born_of_shape (Some x) n es e = ap (λ (m : ℕ). Some m) (some_shape x.birth n (ends x.edges) es e).0

-- ---- a replica goes

module _ (V : Why) (a : Store) (file : FileId) (free : fill_at a file ≡ None) (may : V.replica file) where
  abbrev Left : Store
  Left = let_go a file

  -- what is not held behind it, but this, was not held
  away_by : (q : FileId) (t : Bool) → is_at (file_cmp file) q ≡ t → is_held Left q ≡ false → (i : Intent) → fill_at a q ≡ Some i
      → is_held a q ≡ false
  away_by q true same away i there =
      let P : FileId → Type 0 = λ f. fill_at a f ≡ None in
      absurd (let z : ◌≡◌ {A = Option Intent} None (Some i) = sym (subst P (is_same_file-true file q same) free) ∙ there in cc)
  away_by q false apart away i there =
      sym (ap (λ (o : Option InodeValue). is_some o) (known_behind a file q ∙ ap (λ t. cond (not t) (known a.names q) None) apart)) ∙ away

  go_back : (q : FileId) (n : ℕ) → Has Left q n → Has a q n
  go_back q n has = elim has [
    | inl e ↦ inl (born_left a file q n e)
    | inr p ↦ inr (elim p [
      | inl w ↦ inl w
      | inr g ↦ inr (away_by q (is_at (file_cmp file) q) refl g.0 _ g.1.2, g.1)
    ])
  ]

  go_goes : Goes a Left
  go_goes =
      none_new a Left (λ k. go_together a file k.together) (λ k. go_births a file k.births)
      (let h : a.births ≤ a.births = omega arith in h) go_back

  no_shape : shape_at Left file ≡ None
  no_shape =
      ap (option_map shape) (replica_behind a.replicas file file ∙ ap (λ t. cond (not t) (replica_at a file) None) (is_same_file-refl file))

  abbrev Either : FileId → ℕ → List (ℕ × ℕ) → Type 0
  Either q n es = Keeps V Left q n es ⊎ WentOff V Left q n

  go_by : IsAlone a → (q : FileId) (n : ℕ) (es : List (ℕ × ℕ)) (t : Bool) → is_at (file_cmp file) q ≡ t → shape_at a q ≡ Some (n, es) → Either q n es
  go_by k q n es true same there =
      let P : FileId → Type 0 = λ f. shape_at a f ≡ Some (n, es) → Either f n es in
      subst P (is_same_file-true file q same)
      (λ here. inr (no_shape, goes_over a file n k.together k.births (born_of_shape (replica_at a file) n es here) free, may)) there
  go_by k q n es false apart there =
      inl (keeps_same V Left q n es
      (ap (option_map shape) (replica_behind a.replicas file q ∙ ap (λ t. cond (not t) (replica_at a q) None) apart) ∙ there))

  pub go_moves : Moves V a Left
  go_moves = record { goes = go_goes; edges = λ k q n es there. go_by k q n es (is_at (file_cmp file) q) refl there }

-- ---- an intention begins that is no Fill

pub begun_stays : (s : Store) (i : Intent) (w : Work) → ((q : FileId) → is_same_key (intent_key.Fill q) (key_of i) ≡ false)
    → Stays s (begin_intent s i w).store
begun_stays s i w other = record {
  before = intents_as_before s (begun s.intents i) (λ q j there. sym (begun_other s i w (intent_key.Fill q) (other q)) ∙ there);
  shapes = λ q. refl;
}

-- so Byes leave all as it is
pub byes_stay : (file : FileId) (birth : ℕ) (es : List Edge) (d : Done) → Stays d.store (begin_byes file birth es d).store
byes_stay file birth es d =
    byes_by (λ (x : Done). Stays d.store x.store) (λ (e : Edge). Unit {0}) file birth
    (λ x e one k. stays_then k (begun_stays x.store (bye_to file birth e) x.work (λ q. refl))) es (All-every (λ (e : Edge). Unit {0}) es (λ e. tt)) d
    (stays_itself d.store)

-- what went is said to have gone: by its server, in a Gone or a Bye; and what goes here goes with
-- leave
pub record Lets (V : Why) (a : Store) (m : Message) (w : Work) : Type 0 where
  pub gone : (file : FileId) (birth : ℕ) → m ≡ message.Gone file birth → V.edge file w.from birth
  pub bye : (x : Ends) → m ≡ message.Bye x → V.edge x.file w.from x.sender
  pub leave : (x : Ends) (stamp : Stamp) → m ≡ message.LeaveOk x stamp → goes_now a x stamp w ≡ true → V.replica x.file

pub lets_any : (a : Store) (m : Message) (w : Work) → Lets AnyWhy a m w
lets_any a m w = record { gone = λ file birth is. tt; bye = λ x is. tt; leave = λ x stamp is now. tt }

pub now_goes : (t u : Bool) → t ≡ true → u ≡ false → (t && not u) ≡ true
now_goes t u may kept = ap (λ z. z && not u) may ∙ ap not kept

pub leave_ok_moves : (V : Why) (a : Store) (x : Ends) (stamp : Stamp) (w : Work) → (goes_now a x stamp w ≡ true → V.replica x.file)
    → Moves V a (leave_ok a x stamp w).store
leave_ok_moves V a x stamp w going =
    let f = x.file in
    let b = without_leave a f in
    let to_b : Stays a b = ended_stays a (intent_key.Leave f) in
    let kept = is_some (stays_for b f) in
    let To : Done → Type 0 = λ d. Moves V a d.store in
    decided To (may_leave a x stamp w) (goes_or_stays b f w) (idle a w)
    (λ t. decided To kept (idle b w) (goes b f w) (λ u. stays_moves to_b)
    (λ u. stay_moves to_b
    (moves_stay (go_moves V b f (none_fills f b.intents (stays_not b f u).1.1.0) (going (now_goes (may_leave a x stamp w) kept t u)))
    (byes_stay f (birth_of b f) (replica_of b f).edges (idle (let_go b f) w)))))
    (λ no. moves_itself a)

-- ---- replicas stay or go

unborn : (o : Option Replica) → option_map shape o ≡ None → is_some o ≡ false
unborn None e = refl
unborn (Some x) e = absurd (let z : ◌≡◌ {A = Option Shape} (Some (shape x)) None = e in cc)

pub stays_or_goes : (V : Why) (a b : Store) → IsAlone a → Moves V a b → StaysOrGoes a b
stays_or_goes V a b alone m f n there =
    let x = born_of (replica_at a f) n there in
    let at : shape_at a f ≡ Some (n, ends x.0.edges) =
    ap (option_map shape) x.1 ∙ ap (λ (z : ℕ). Some (z, ends x.0.edges)) x.2 in
    elim (m.edges alone f n (ends x.0.edges) at) [
      | inl k ↦ inl (born_of_shape (replica_at b f) n k.0 k.1)
      | inr w ↦ inr (sym ((m.goes.alone alone).together f) ∙ unborn (replica_at b f) w.0, w.1)
    ]

-- ---- births move one way

module _ (V : Why) (a b : Store) (alone : IsAlone a) (m : Moves V a b) where
  abbrev after : IsAlone b
  after = m.goes.alone alone

  -- what was held is not asked for again
  asked_again : (f : FileId) (n : ℕ) (es : List (ℕ × ℕ)) → shape_at a f ≡ Some (n, es) → is_pending b f n ≡ true → ⊥
  asked_again f n es there p = elim (m.edges alone f n es there) [
    | inl k ↦ (
        let held = held_born b after.births f n after.together (born_of_shape (replica_at b f) n k.0 k.1) in
        elim (pending_has b f n p) [
          | inl w ↦ unheld b after.births f held (after.births.wished f w.0 w.1).0
          | inr g ↦ unheld b after.births f held g.0
        ])
    | inr w ↦ false≢true (sym w.1.unasked ∙ p)
  ]

  held_by : (f : FileId) (n : ℕ) → has_birth b f n ≡ true → (has_birth a f n ≡ true) ⊎ (is_pending a f n ≡ true) ⊎ (a.births < n)
  held_by f n h = elim (m.goes.newly f n (inl (of_birth (replica_at b f) n h))) [
    | inl was ↦ elim (as_was a f n was) [ inl here ↦ inl here | inr p ↦ inr (inl p) ]
    | inr new ↦ inr (inr new)
  ]

  asked_by : (f : FileId) (n : ℕ) → is_pending b f n ≡ true → (is_pending a f n ≡ true) ⊎ (a.births < n)
  asked_by f n p = elim (m.goes.newly f n (to_has b f n (inr p))) [
    | inl was ↦ elim (from_has a f n was) [
      | inl x ↦ absurd (asked_again f n (ends x.0.edges) (ap (option_map shape) x.1 ∙ ap (λ (z : ℕ). Some (z, ends x.0.edges)) x.2) p)
      | inr q ↦ inl q
    ]
    | inr new ↦ inr new
  ]

  pub births_go : BirthsMove a b
  births_go = record { given = m.goes.count; held = held_by; asked = asked_by }
