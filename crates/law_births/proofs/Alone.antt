-- In every run, of each thing a server has one birth at a time, and edges go to greater births.
use Rattle.std.proofs.Common.{ℕ, ◌≡◌, ◌≤◌, ◌<◌, ◌==◌, ◌++◌, ◌⊎◌, arith, Bool, true, false, cond, List, [], ◌∷◌, Option, None, Some, is_some, inl, inr, refl, sym, ap, subst, ◌∙◌, eq-eqb}
use Rattle.std.specs.Option.{option_map}
use Rattle.std.proofs.lemmas.Bool.{eqb-true, false≢true}
use Rattle.pg_run.specs.pg_base.declared.id.FileId.{FileId}
use Rattle.pg_run.specs.pg_base.Id.{file_cmp, is_same_file}
use Rattle.pg_run.proofs.pg_base.Maps.{lookup-insert_entry}
use Rattle.pg_run.proofs.pg_base.Orders.{file_total, is_same_file-true}
use Rattle.pg_run.specs.pg_edges.declared.edge.Edge.{Edge}
use Rattle.pg_run.specs.pg_edges.Edges.{edge_to, is_listed}
use Rattle.pg_run.specs.pg_event.declared.event.Event.{Event}
use Rattle.pg_run.specs.pg_intent.declared.intent.Intent.{Intent}
use Rattle.pg_run.specs.pg_intent.declared.intent.Intent.TheVariants as intent
use Rattle.pg_run.specs.pg_register.Place.{root}
use Rattle.pg_run.specs.pg_replica.declared.replica.Replica.{Replica}
use Rattle.pg_run.specs.pg_replica.Root.{first_root}
use Rattle.pg_run.specs.pg_server.declared.input.Input.TheVariants as input
use Rattle.pg_run.specs.pg_server.Local.{effect, first_effect}
use Rattle.pg_run.specs.pg_store.declared.store.Store.{Store}
use Rattle.pg_run.specs.pg_store.declared.wishes.Wish.{Wish}
use Rattle.pg_run.specs.pg_store.Births.{fill_at, wish_at}
use Rattle.pg_run.specs.pg_store.Store.{is_held, new_store, replica_at}
use Rattle.pg_run.specs.pg_store.Together.{BirthsMove, birth_at}
use Rattle.pg_run.proofs.pg_store.Over.{moves_itself as births_stay, moves_then}
use Rattle.pg_run.proofs.pg_store.Pairs.{start_together}
use Rattle.pg_run.proofs.pg_store.Wishing.{start_births}
use Rattle.pg_run.specs.Births.{BirthIsAlone, BirthsAreAlone, BirthsAreOfOneThing, BirthsMoveInEvents, BirthsMoveOn, EdgesGoUp, GreaterBirthsReplaceEdges, IsBirthAt, LinksNameTheSender, ReplicasStayOrGo, WasGivenOut}
use Rattle.pg_run.specs.Laws.{store_after}
use Rattle.pg_run.specs.Run.{Step, Taking, World, next, run, start, taking_in}
use Rattle.pg_run.proofs.Frame.{Acts, IsFramed, acts_is, framed, next_is, run_more}
use Rattle.law_births.specs.Premises.{FillsAlwaysStand, NextIdsAreFree}
use Rattle.law_births.proofs.Effects.{Lists, arrival_lists, effect_moves, end_moves, first_moves, lets_in_any}
use Rattle.law_births.proofs.Ends.{born_to, born_to-edge, ends, listed_born}
use Rattle.law_births.proofs.Going.{along}
use Rattle.law_births.proofs.Has.{Goes, Has, IsAlone, goes_itself, goes_then, has_given, has_one, to_has}
use Rattle.law_births.proofs.Leaves.{births_go, stays_or_goes}
use Rattle.law_births.proofs.Current.{current_of}
use Rattle.law_births.proofs.Moving.{AnyWhy, EdgesMove, Moves, moves_itself}
use Rattle.law_births.proofs.Pieces.{Shape, shape, shape_at}

-- ---- the start

root_by : (f : FileId) (x : Replica) (t : Bool) (n : ℕ) → is_same_file f root ≡ t
    → option_map (λ (y : Replica). y.birth) (cond t (Some x) None) ≡ Some n → f ≡ root
root_by f x true n e there = is_same_file-true f root e
root_by f x false n e there = cc

start_root : (servers server : ℕ) (f : FileId) (n : ℕ) → Has (new_store servers server) f n → f ≡ root
start_root servers server f n has = elim has [
  | inl e ↦ root_by f (first_root server servers) (is_same_file f root) n refl
      (sym (ap (option_map (λ (y : Replica). y.birth)) (lookup-insert_entry file_cmp file_total f root (first_root server servers) [])) ∙ e)
  | inr p ↦ elim p [
    | inl w ↦ absurd (let z : ◌≡◌ {A = Option Wish} None (Some w.0) = w.1 in cc)
    | inr g ↦ absurd (let z : ◌≡◌ {A = Option Intent} None (Some (intent.Fill g.1.0 n g.1.1)) = g.1.2 in cc)
  ]
]

start_alone : (servers server : ℕ) → IsAlone (new_store servers server)
start_alone servers server = record {
  together = start_together servers server;
  births = start_births servers server;
  apart = λ f g n one two. start_root servers server f n one ∙ sym (start_root servers server g n two);
}

some_same : (m n : ℕ) → ◌≡◌ {A = Option ℕ} (Some m) (Some n) → m ≡ n
some_same m n e = cc

-- ---- each event

-- two lists of events with one beginning: one of them goes on from the other
same_head : (d e : Event) (xs ys : List Event) → d ∷ xs ≡ e ∷ ys → (d ≡ e) × (xs ≡ ys)
same_head d e xs ys same = (cc, cc)

either_longer : (xs ys us vs : List Event) → xs ++ ys ≡ us ++ vs
    → ((more : List Event) × (us ≡ xs ++ more)) ⊎ ((more : List Event) × (xs ≡ us ++ more))
either_longer [] ys us vs same = inl (us, refl)
either_longer (x ∷ xs) ys [] vs same = inr (x ∷ xs, refl)
either_longer (x ∷ xs) ys (u ∷ us) vs same =
    let k = same_head x u (xs ++ ys) (us ++ vs) same in
    elim (either_longer xs ys us vs k.1) [
      | inl m ↦ inl (m.0, ap (λ (e : Event). e ∷ us) (sym k.0) ∙ ap (λ (l : List Event). x ∷ l) m.1)
      | inr m ↦ inr (m.0, ap (λ (e : Event). e ∷ xs) k.0 ∙ ap (λ (l : List Event). u ∷ l) m.1)
    ]

module _ (n : ℕ) (fills : FillsAlwaysStand n) (free : NextIdsAreFree n) where
  abbrev At : List Event → ℕ → Store
  At events s = store_after n events s

  module _ (before : List Event) (e : Event) (s : ℕ) where
    abbrev W : World
    W = run n before

    acted_by : (t : Taking) → Acts n W t → (here : Bool) → (s == t.server) ≡ here
        → Moves AnyWhy (W.stores s) (cond here (effect (W.stores t.server) t.asked).store (W.stores s))
    acted_by t acts true same =
        let P : ℕ → Type 0 = λ z. Moves AnyWhy (W.stores z) (effect (W.stores t.server) t.asked).store in
        subst P (sym (eqb-true s t.server same))
        (effect_moves AnyWhy (W.stores t.server) (fills before t.server acts.least acts.most) (free before t.server acts.least acts.most) t.asked
        (lets_in_any (W.stores t.server) t.asked))
    acted_by t acts false other = moves_itself (W.stores s)

    step_by : (o : Option Taking) (step : Step) → IsFramed n W e o step → Moves AnyWhy (W.stores s) (step.stores s)
    step_by None step f = subst (λ (z : Step). Moves AnyWhy (W.stores s) (z.stores s)) (sym f.1) (moves_itself (W.stores s))
    step_by (Some t) step f =
        subst (λ (z : Step). Moves AnyWhy (W.stores s) (z.stores s)) (sym f.1) (acted_by t f.0 (s == t.server) refl)

    pub next_moves : Moves AnyWhy (W.stores s) ((next n W e).stores s)
    next_moves = step_by (taking_in n W e) (next n W e) (framed n W e)

    pub event_moves : Moves AnyWhy (At before s) (At (before ++ e ∷ []) s)
    event_moves = subst (λ (w : World). Moves AnyWhy (At before s) (w.stores s)) (sym (run_more n (start n) before e)) next_moves

  -- ---- all events

  pub alone_always : (events : List Event) (s : ℕ) → IsAlone (At events s)
  alone_always events s =
      along (λ es. IsAlone (At es s)) (λ es e k. (event_moves es e s).goes.alone k) [] events (start_alone n s)

  pub goes_from : (before more : List Event) (s : ℕ) → Goes (At before s) (At (before ++ more) s)
  goes_from before more s =
      along (λ es. Goes (At before s) (At es s)) (λ es e k. goes_then k (event_moves es e s).goes) before more (goes_itself (At before s))

  -- since a birth was given out
  since : (events : List Event) (f : FileId) (s b : ℕ) (g : WasGivenOut n events f s b) → Goes (At g.before s) (At events s)
  since events f s b g =
      subst (λ (es : List Event). Goes (At g.before s) (At es s)) (sym g.split) (goes_from g.before g.behind s)

  given_then : (events : List Event) (f : FileId) (s b : ℕ) (g : WasGivenOut n events f s b) → b ≤ (At g.before s).births
  given_then events f s b g = (has_given (At g.before s) (alone_always g.before s).births f b (to_has (At g.before s) f b g.was)).1

  at_most : (a b c : ℕ) → a ≤ b → b ≤ c → a ≤ c
  at_most a b c h k = omega arith

  below : (a b c : ℕ) → a ≤ b → b < c → a ≤ c
  below a b c h k = omega arith

  no_more : (a b : ℕ) → a ≤ b → b < a → ⊥
  no_more a b h k = omega arith

  same_is : (a b : ℕ) → a ≡ b → a ≤ b
  same_is a b e = omega (arith, e)

  module _ (events : List Event) (s : ℕ) (file : FileId) where
    abbrev Now : Store
    Now = At events s

    is_alone : IsAlone Now
    is_alone = alone_always events s

    born : (x : Replica) → replica_at Now file ≡ Some x → birth_at Now file ≡ Some x.birth
    born x there = ap (option_map (λ (y : Replica). y.birth)) there

    held_of : (x : Replica) → replica_at Now file ≡ Some x → is_held Now file ≡ true
    held_of x there = sym (is_alone.together file) ∙ ap (λ (o : Option Replica). is_some o) there

    no_wish : (x : Replica) → replica_at Now file ≡ Some x → (o : Option Wish) → wish_at Now file ≡ o → o ≡ None
    no_wish x there None w = refl
    no_wish x there (Some wish) w =
        absurd (false≢true (sym (is_alone.births.wished file wish w).0 ∙ held_of x there))

    one_birth : (x : Replica) (birth target : ℕ) → replica_at Now file ≡ Some x
        → fill_at Now file ≡ Some (intent.Fill file birth target) → birth ≡ x.birth
    one_birth x birth target there fill =
        let own = is_alone.births.own file file birth target fill (held_of x there) in
        some_same birth x.birth (sym own ∙ born x there)

    greatest : (b c : ℕ) → WasGivenOut n events file s b → IsBirthAt Now file c → b ≤ c
    greatest b c g is =
        let then = At g.before s in
        let alone = alone_always g.before s in
        elim ((since events file s b g).newly file c (to_has Now file c is)) [
          | inl was ↦ same_is b c (has_one then alone.births file b c alone.together (to_has then file b g.was) was)
          | inr new ↦ below b then.births c (given_then events file s b g) new
        ]

    pub birth_alone : BirthIsAlone n events s file
    birth_alone = record {
      held = λ x there. no_wish x there (wish_at Now file) refl;
      filled = λ x birth target there fill. one_birth x birth target there fill;
      once = λ wish there. (is_alone.births.wished file wish there).1;
      greatest = greatest;
      counted = λ b g. at_most b (At g.before s).births Now.births (given_then events file s b g) (since events file s b g).count;
    }

  -- OF EACH THING ONE BIRTH AT A TIME
  pub births_are_alone : BirthsAreAlone n
  births_are_alone events s least most file = birth_alone events s file

  -- ---- one thing

  apart_by : (events more : List Event) (s : ℕ) (f g : FileId) (b : ℕ) → IsBirthAt (At events s) f b
      → IsBirthAt (At (events ++ more) s) g b → f ≡ g
  apart_by events more s f g b one two =
      let a = At events s in
      let c = At (events ++ more) s in
      let alone = alone_always events s in
      elim ((goes_from events more s).newly g b (to_has c g b two)) [
        | inl was ↦ alone.apart f g b (to_has a f b one) was
        | inr new ↦ absurd (no_more b a.births (has_given a alone.births f b (to_has a f b one)).1 new)
      ]

  apart_at : (es fs more : List Event) (s : ℕ) (f g : FileId) (b : ℕ) → fs ≡ es ++ more → IsBirthAt (At es s) f b
      → IsBirthAt (At fs s) g b → f ≡ g
  apart_at es fs more s f g b e one two =
      apart_by es more s f g b one (subst (λ (l : List Event). IsBirthAt (At l s) g b) e two)

  -- AND OF ONE THING EACH BIRTH
  pub births_are_of_one_thing : BirthsAreOfOneThing n
  births_are_of_one_thing events s f g b one two =
      elim (either_longer one.before one.behind two.before two.behind (sym one.split ∙ two.split)) [
        | inl m ↦ apart_at one.before two.before m.0 s f g b m.1 one.was two.was
        | inr m ↦ sym (apart_at two.before one.before m.0 s g f b m.1 two.was one.was)
      ]

  -- ---- births move one way

  event_births : (events : List Event) (e : Event) (s : ℕ) → BirthsMove (At events s) (At (events ++ e ∷ []) s)
  event_births events e s =
      births_go AnyWhy (At events s) (At (events ++ e ∷ []) s) (alone_always events s) (event_moves events e s)

  -- BIRTHS MOVE ONE WAY, along every run
  pub births_move_on : BirthsMoveOn n
  births_move_on events more s least most =
      along (λ es. BirthsMove (At events s) (At es s))
      (λ es e k. moves_then (At events s) (At es s) (At (es ++ e ∷ []) s) k (event_births es e s)) events more
      (births_stay (At events s))

  -- AND IN EVERY EVENT
  pub births_move_in_events : BirthsMoveInEvents n
  births_move_in_events events e s asked takes =
      let a = At events s in
      let acts = acts_is n (run n events) e (record { server = s; asked = asked }) takes in
      let alone = alone_always events s in
      let first = first_effect a asked in
      let one = first_moves AnyWhy a (fills events s acts.least acts.most) (free events s acts.least acts.most) asked (lets_in_any a asked) in (
        births_go AnyWhy a first.store alone one,
        births_go AnyWhy first.store (effect a asked).store (one.goes.alone alone) (end_moves AnyWhy a asked),
      )

  -- REPLICAS STAY OR GO
  pub replicas_stay_or_go : ReplicasStayOrGo n
  replicas_stay_or_go events e s asked takes =
      let a = At events s in
      let acts = acts_is n (run n events) e (record { server = s; asked = asked }) takes in
      let fill = fills events s acts.least acts.most in
      let id = free events s acts.least acts.most in
      let alone = alone_always events s in (
        stays_or_goes AnyWhy a (first_effect a asked).store alone (first_moves AnyWhy a fill id asked (lets_in_any a asked)),
        stays_or_goes AnyWhy a (effect a asked).store alone (effect_moves AnyWhy a fill id asked (lets_in_any a asked)),
      )

  -- ---- edges

  shape_is : (a : Store) (file : FileId) (x : Replica) → replica_at a file ≡ Some x → shape_at a file ≡ Some (shape x)
  shape_is a file x there = ap (option_map shape) there

  born_edge : (x : Replica) (peer : ℕ) (d : Edge) → edge_to x.edges peer ≡ Some d → born_to (ends x.edges) peer ≡ Some d.birth
  born_edge x peer d there = born_to-edge x.edges peer ∙ ap (option_map (λ (z : Edge). z.birth)) there

  ends_of : (x y : Replica) (m : ℕ) (fs : List (ℕ × ℕ)) → ◌≡◌ {A = Option Shape} (Some (m, fs)) (Some (shape y)) → (m ≡ y.birth) × (fs ≡ ends y.edges)
  ends_of x y m fs e =
      let k : ◌≡◌ {A = Shape} (m, fs) (shape y) = cc in
      (ap (λ (z : Shape). z.0) k, ap (λ (z : Shape). z.1) k)

  of_shape : (o : Option Replica) (m : ℕ) (fs : List (ℕ × ℕ)) → option_map shape o ≡ Some (m, fs) → (y : Replica) × (o ≡ Some y) × (y.birth ≡ m)
  of_shape None m fs e = cc
  of_shape (Some y) m fs e = (y, refl, sym (ends_of y y m fs (sym e)).0)

  module _ (a b : Store) (moves : EdgesMove AnyWhy a b) where
    falls_not : (file : FileId) (x y : Replica) (peer : ℕ) (d e : Edge) → replica_at a file ≡ Some x → replica_at b file ≡ Some y
        → edge_to x.edges peer ≡ Some d → edge_to y.edges peer ≡ Some e → d.birth ≤ e.birth
    falls_not file x y peer d e old new one two =
        elim (moves file x.birth (ends x.edges) (shape_is a file x old)) [
          | inl m ↦ (
              let same = ends_of x y x.birth m.0 (sym m.1 ∙ shape_is b file y new) in
              m.2 peer d.birth e.birth (born_edge x peer d one)
              (subst (λ (l : List (ℕ × ℕ)). born_to l peer ≡ Some e.birth) (sym same.1) (born_edge y peer e two)))
          | inr w ↦ absurd (let z : ◌≡◌ {A = Option Shape} None (Some (shape y)) = sym w.0 ∙ shape_is b file y new in cc)
        ]

    pub go_up : EdgesGoUp a b
    go_up = record {
      births = falls_not;
      stays = λ file x there. elim (moves file x.birth (ends x.edges) (shape_is a file x there)) [
        | inl m ↦ inl (of_shape (replica_at b file) x.birth m.0 m.1)
        | inr w ↦ inr w.1
      ];
    }

  -- GREATER BIRTHS REPLACE EDGES
  pub greater_births_replace_edges : GreaterBirthsReplaceEdges n
  greater_births_replace_edges events e s least most =
      go_up ((run n events).stores s) ((next n (run n events) e).stores s)
      ((next_moves events e s).edges (alone_always events s))

  -- ---- who is listed

  listed_by : (b : Store) (file : FileId) (peer birth : ℕ) (y : Replica) → replica_at b file ≡ Some y → Lists b file peer birth
      → is_listed y.edges peer birth ≡ true
  listed_by b file peer birth y there l =
      let same = ends_of y y l.0 l.1 (sym l.2 ∙ shape_is b file y there) in
      listed_born y.edges peer birth (subst (λ (es : List (ℕ × ℕ)). born_to es peer ≡ Some birth) same.1 l.3)

  itself : (s : ℕ) → (s == s) ≡ true
  itself s = eq-eqb s s refl

  -- LINKS NAME THE SENDER
  pub links_name_the_sender : LinksNameTheSender n
  links_name_the_sender events e s packet ends y takes heard links met there =
      let w = run n events in
      let t : Taking = record { server = s; asked = input.Arrival packet } in
      let b = (effect (w.stores s) (input.Arrival packet)).store in
      let is : (next n w e).stores s ≡ b =
      ap (λ (z : Step). z.stores s) (next_is n w e t takes) ∙ ap (λ u. cond u b (w.stores s)) (itself s) in
      listed_by b ends.file packet.from ends.sender y (sym (ap (λ (z : Store). replica_at z ends.file) is) ∙ there)
      (arrival_lists (w.stores s) (alone_always events s) packet ends heard links
      (current_of (w.stores s) packet.from ends met))
