-- In any run who is linked by asking is listed behind the event.
use Rattle.std.proofs.Common.{ℕ, ◌≡◌, Bool, true, false, cond, List, Option, None, Some, refl, sym, ap, subst, ◌∙◌, eq-eqb}
use Rattle.std.specs.Option.{option_map}
use Rattle.std.proofs.lemmas.Bool.{false≢true}
use Rattle.pg_run.specs.pg_edges.Edges.{is_listed}
use Rattle.pg_run.specs.pg_msg.declared.message.Packet.{Packet}
use Rattle.pg_run.specs.pg_msg.Work.{new_work}
use Rattle.pg_run.specs.pg_replica.declared.replica.Replica.{Replica}
use Rattle.pg_run.specs.pg_store.declared.store.Store.{Store}
use Rattle.pg_run.specs.pg_store.Links.{knows_later}
use Rattle.pg_run.specs.pg_store.Store.{replica_at}
use Rattle.pg_run.specs.pg_pieces.Done.{Done, idle}
use Rattle.pg_run.specs.pg_server.declared.input.Input.TheVariants as input
use Rattle.pg_run.specs.pg_server.Local.{Effect, closed, effect, finished, first_effect, intended, is_heard, receive, settled}
use Rattle.pg_run.specs.Intending.{IntentionsAreInOrder}
use Rattle.pg_run.specs.Run.{Step, Taking, next, run}
use Rattle.law_births.specs.Premises.{FillsAlwaysStand, NextIdsAreFree}
use Rattle.pg_run.proofs.Frame.{acts_is, next_is}
use Rattle.law_births.proofs.Alone.{alone_always}
use Rattle.law_births.proofs.Effects.{Lists, intended_shapes, lists_on}
use Rattle.law_births.proofs.Ends.{born_to, ends, listed_born}
use Rattle.law_births.proofs.Has.{IsAlone}
use Rattle.law_births.proofs.Pieces.{Shape, settle_stays, shape}
use Rattle.law_order.proofs.Told.{ids_new, servers_whole}
use Rattle.law_links.proofs.Asked.{received_lists}
use Rattle.law_links.proofs.Words.{IsTestedBy, named_at, none_later, tested_by}
use Rattle.law_links.specs.Links.{AsksLinkTheAsker, IsLinkedAt, LinkTo}

-- ---- what is listed has an edge

ends_of : (y : Replica) (m : ℕ) (fs : List (ℕ × ℕ))
    → ◌≡◌ {A = Option Shape} (Some (shape y)) (Some (m, fs)) → fs ≡ ends y.edges
ends_of y m fs e =
    let k : ◌≡◌ {A = Shape} (m, fs) (shape y) = cc in ap (λ (z : Shape). z.1) k

linked_by : (o : Option Replica) (m : ℕ) (fs : List (ℕ × ℕ)) (peer birth : ℕ)
    → ◌≡◌ {A = Option Shape} (option_map shape o) (Some (m, fs)) → born_to fs peer ≡ Some birth
    → (y : Replica) × (o ≡ Some y) × (is_listed y.edges peer birth ≡ true)
linked_by None m fs peer birth e born =
    absurd (let z : ◌≡◌ {A = Option Shape} None (Some (m, fs)) = e in cc)
linked_by (Some y) m fs peer birth e born = (
  y,
  refl,
  listed_born y.edges peer birth
      (subst (λ (es : List (ℕ × ℕ)). born_to es peer ≡ Some birth) (ends_of y m fs e) born),
)

linked_at : (b : Store) (l : LinkTo) → Lists b l.file l.peer l.birth → IsLinkedAt b l
linked_at b l h = named_at b l (linked_by (replica_at b l.file) h.0 h.1 l.peer l.birth h.2 h.3)

-- ---- the event

chosen_there : {A : Type 0} (P : A → Type 0) (t : Bool) (x y : A) → t ≡ true → P x → P (cond t x y)
chosen_there P true x y is here = here
chosen_there P false x y is here = absurd (false≢true is)

module _ (a : Store) (k : IsAlone a) (packet : Packet) (l : LinkTo)
    (heard : is_heard a packet ≡ true) (links : IsTestedBy a packet.from l packet.message)
    (later : knows_later a l.file l.peer l.birth ≡ false) where
  abbrev Here : Store → Type 0
  Here b = Lists b l.file l.peer l.birth

  first_lists : Here (first_effect a (input.Arrival packet)).store
  first_lists =
      let w = new_work 0 packet.from in
      chosen_there (λ (d : Done). Here d.store) (is_heard a packet) (receive a packet.message w)
      (idle a w) heard (received_lists a k packet.from packet.message l links later)

  pub event_lists : Here (effect a (input.Arrival packet)).store
  event_lists =
      let d = first_effect a (input.Arrival packet) in
      let s = settled d in
      chosen_there (λ (e : Effect). Here e.store) (is_heard a packet) (closed None d)
      (finished None d) heard
      (lists_on s.store (intended s).store l.file l.peer l.birth (intended_shapes s l.file)
      (lists_on d.store s.store l.file l.peer l.birth
      ((settle_stays d.store d.work).shapes l.file) first_lists))

-- ---- a run

fills_stand : (n : ℕ) → IntentionsAreInOrder n → FillsAlwaysStand n
fills_stand n k events s least most = (k events s least most).fills

ids_free : (n : ℕ) → NextIdsAreFree n
ids_free n events s least most kind =
    let new = ids_new n events s least most kind in
    record { away = new.away; unfilled = new.unfilled }

-- WHO ASKS IS LINKED
pub asks_link_the_asker : (n : ℕ) → IntentionsAreInOrder n → AsksLinkTheAsker n
asks_link_the_asker n intends events event s packet l takes heard links later =
    let w = run n events in
    let t : Taking = record { server = s; asked = input.Arrival packet } in
    let acts = acts_is n w event t takes in
    let whole = servers_whole n events s acts.least acts.most in
    let tested = tested_by n s (w.stores s) whole packet.from l packet.message links in
    let b = (effect (w.stores s) (input.Arrival packet)).store in
    let is : (next n w event).stores s ≡ b =
    ap (λ (z : Step). z.stores s) (next_is n w event t takes)
    ∙ ap (λ u. cond u b (w.stores s)) (eq-eqb s s refl) in
    subst (λ (z : Store). IsLinkedAt z l) (sym is)
    (linked_at b l (event_lists (w.stores s)
    (alone_always n (fills_stand n intends) (ids_free n) events s) packet l heard tested (none_later (w.stores s) l later)))
