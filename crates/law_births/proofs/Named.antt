-- In every run, each birth that is named was given out.
use Rattle.std.proofs.Common.{ℕ, ◌≡◌, ◌≤◌, ◌==◌, ◌++◌, Bool, true, false, cond, zero, suc, List, [], ◌∷◌, append_assoc, map, Option, None, Some, All, inl, refl, sym, ap, subst, ◌∙◌}
use Rattle.std.specs.Prelude.{Contains}
use Rattle.std.specs.Option.{option_map}
use Rattle.std.specs.List.{IsAmong}
use Rattle.std.proofs.lemmas.Bool.{and_parts}
use Rattle.std.proofs.lemmas.List.{append-nil}
use Rattle.std.proofs.lemmas.List.Elements.{All-append, All-cons, All-head, All-nil, All-tail, All-weaker}
use Rattle.pg_run.specs.pg_base.declared.id.FileId.{FileId}
use Rattle.pg_run.specs.pg_base.Id.{file_cmp}
use Rattle.pg_run.proofs.pg_base.Maps.{lookup-insert_entry}
use Rattle.pg_run.proofs.pg_base.Orders.{file_total, is_same_file-refl}
use Rattle.pg_run.proofs.pg_content.Members.{all_among}
use Rattle.pg_run.specs.pg_edges.declared.edge.Edge.{Edge}
use Rattle.pg_run.specs.pg_edges.Edges.{put_edge}
use Rattle.pg_run.specs.pg_entries.declared.entry.Entry.{Entry}
use Rattle.pg_run.specs.pg_event.declared.entry.VoidCause.{VoidCause}
use Rattle.pg_run.specs.pg_event.declared.event.Event.{Event}
use Rattle.pg_run.proofs.theory_flood.Flood.{after_itself}
use Rattle.pg_run.specs.pg_intent.declared.intent.Intent.TheVariants as intent
use Rattle.pg_run.specs.pg_msg.declared.message.Sent.{Sent}
use Rattle.pg_run.specs.pg_msg.declared.update.MadeVersion.{MadeVersion}
use Rattle.pg_run.specs.pg_names.declared.attributes.Attributes.{Attributes}
use Rattle.pg_run.specs.pg_names.Names.{new_names}
use Rattle.pg_run.specs.pg_register.Place.{root}
use Rattle.pg_run.specs.pg_replica.declared.replica.Replica.{Replica}
use Rattle.pg_run.specs.pg_replica.Root.{clean_edge, clean_edges, first_root}
use Rattle.pg_run.specs.pg_server.declared.input.Input.{Input}
use Rattle.pg_run.specs.pg_server.declared.input.Input.TheVariants as input
use Rattle.pg_run.specs.pg_server.Local.{effect}
use Rattle.pg_run.specs.pg_store.declared.store.Store.{Store}
use Rattle.pg_run.specs.pg_store.Start.{first_flag, first_flags, root_own}
use Rattle.pg_run.specs.pg_store.Births.{birth_of}
use Rattle.pg_run.specs.pg_store.Store.{is_held, new_store}
use Rattle.pg_run.specs.pg_store.Together.{birth_at}
use Rattle.pg_run.specs.Births.{BirthsAreKnown, BirthsWereGivenOut, WasGivenOut}
use Rattle.pg_run.specs.Intending.{IntentionsAreInOrder}
use Rattle.pg_run.specs.Journal.{Born, born_at, born_in, mail, versions_in}
use Rattle.pg_run.specs.Laws.{store_after}
use Rattle.pg_run.specs.Run.{Step, Taking, World, effect_step, idle_step, next, run, start, taking_in, world_after}
use Rattle.pg_run.proofs.Frame.{Acts, HasCome, IsFramed, each_after, framed, next_is, run_more}
use Rattle.pg_run.proofs.Lists.{contained_among}
use Rattle.law_births.specs.Flags.{SaysIntent}
use Rattle.law_births.specs.Premises.{IsMadeHere, MakersHold, StoresAreWhole}
use Rattle.law_births.proofs.Ends.{ends}
use Rattle.law_births.proofs.EndsSay.{AllEnds, edges_all, put_all, put_says}
use Rattle.law_births.proofs.Has.{Has, from_has}
use Rattle.law_births.proofs.Here.{birth_is}
use Rattle.law_births.proofs.Joined.{join_all}
use Rattle.law_births.proofs.NamesSay.{says_begin}
use Rattle.law_births.proofs.Pieces.{Shape, shape}
use Rattle.law_births.proofs.Mails.{OfBirths, Owed, SaysAll, SaysSent, says_of}
use Rattle.law_births.proofs.Sends.{Sorted}
use Rattle.law_births.proofs.Spoken.{Freshly, IsKnownAt, Known, end_known, end_sent}

-- what holds of all holds of one of them
all_at : {A : Type 0} (P : A → Type 0) (xs : List A) (v : A) → All P xs → IsAmong xs v → P v
all_at P xs v all is = subst P (sym is.1.1) (all is.0 v is.1.0)

all_contained : {A : Type 0} (P : A → Type 0) (xs : List A) (v : A) → All P xs → Contains xs v → P v
all_contained P xs v all is = all_among P xs v all (contained_among xs v is)

map_all : {A B : Type 0} (P : B → Type 0) (f : A → B) (xs : List A) → All (λ (x : A). P (f x)) xs → All P (map f xs)
map_all P f [] all = All-nil P
map_all {A} P f (x ∷ xs) all =
    let R : A → Type 0 = λ z. P (f z) in
    All-cons P (f x) (map f xs) (All-head R x xs all) (map_all P f xs (All-tail R x xs all))

-- a message that comes to what is gone is of this
abbrev pub AreGone : ℕ → List Event → (ℕ → FileId → ℕ → Type 0) → Type 0
AreGone n events G = (before : List Event) (e : Event) (behind : List Event) → events ≡ before ++ (e ∷ behind) → (t : Taking)
    → taking_in n (run n before) e ≡ Some t → Acts n (run n before) t → Freshly (G t.server) (store_after n before t.server) t.asked

module _ (n : ℕ) (intends : IntentionsAreInOrder n) (whole : StoresAreWhole n) (makers : MakersHold n) (events : List Event)
    (G : ℕ → FileId → ℕ → Type 0) (gone : AreGone n events G) where
  abbrev At : List Event → ℕ → Store
  At es s = store_after n es s

  -- the births of the whole run
  abbrev P : FileId → ℕ → ℕ → Type 0
  P f s b = WasGivenOut n events f s b

  given : (before behind : List Event) → events ≡ before ++ behind → (s : ℕ) (f : FileId) (b : ℕ) → Has (At before s) f b → P f s b
  given before behind split s f b has = record { before = before; behind = behind; split = split; was = from_has (At before s) f b has }

  sorted_at : (es : List Event) (s : ℕ) → 1 ≤ s → s ≤ n → Sorted (At es s)
  sorted_at es s least most =
      let i = intends es s least most in
      record {
        order = (whole es s least most).order;
        together = i.held.together;
        keys = i.keys;
        own = i.held.births.own;
        sought = λ f there. (and_parts (is_held (At es s) f) _ (sym (i.seeks f) ∙ there)).0;
        left = λ f peer birth there. (i.leaves f peer birth there).2;
      }

  -- what is known of a world
  pub record IsNamed (w : World) : Type 0 where
    pub at : (s : ℕ) → 1 ≤ s → s ≤ n → IsKnownAt P (G s) s (w.stores s)
    pub mail_is : All (λ (m : Sent). SaysSent P (OfBirths P) (G m.packet.from) m.packet.from m) (mail w.journal)
    pub history_is : All (λ (u : Born). P u.made.file u.made.stamp.server u.birth) w.history

  -- ---- the start

  root_has : (s : ℕ) → birth_at (new_store n s) root ≡ Some 1
  root_has s =
      ap (option_map (λ (x : Replica). x.birth)) (lookup-insert_entry file_cmp file_total root root (first_root s n) [])
      ∙ ap (λ t. option_map (λ (x : Replica). x.birth) (cond t (Some (first_root s n)) None)) (is_same_file-refl root)

  root_given : (s : ℕ) → P root s 1
  root_given s = given [] events refl s root 1 (inl (root_has s))

  first_all : (k : ℕ) → All (OfBirths P root) (first_flags k)
  first_all zero = All-nil (OfBirths P root)
  first_all (suc k) = join_all (OfBirths P root) (first_flags k) (first_flag (suc k)) (first_all k) (root_given (suc k))

  clean_by : (k : ℕ) (es : List Edge) (t : Bool) → AllEnds P root (ends es) → AllEnds P root (ends (cond t es (put_edge es (clean_edge (suc k)))))
  clean_by k es true all = all
  clean_by k es false all = put_all P root (clean_edge (suc k)) es (root_given (suc k)) all

  clean_all : (s k : ℕ) → AllEnds P root (ends (clean_edges s k))
  clean_all s zero = tt
  clean_all s (suc k) = clean_by k (clean_edges s k) (suc k == s) (clean_all s k)

  start_at : (s : ℕ) → IsKnownAt P (G s) s (new_store n s)
  start_at s = record {
    store = record {
      names = says_begin (OfBirths P) s (new_names s) root (root_own n) true (first_all n) (record {
        server = refl;
        own = λ q b there. absurd (let z : ◌≡◌ {A = Option Attributes} None (Some b) = there in cc);
        cells = λ d g e there. absurd (let z : ◌≡◌ {A = Option Entry} None (Some e) = there in cc);
      });
      intents = All-nil (SaysIntent (OfBirths P) (Owed P (G s) s));
    };
    edges = put_says P [] root (first_root s n) (clean_all s n)
        (λ q b es there. absurd (let z : ◌≡◌ {A = Option Shape} None (Some (b, es)) = there in cc));
  }

  start_named : IsNamed (start n)
  start_named = record {
    at = λ s least most. start_at s;
    mail_is = All-nil (λ (m : Sent). SaysSent P (OfBirths P) (G m.packet.from) m.packet.from m);
    history_is = All-nil (λ (u : Born). P u.made.file u.made.stamp.server u.birth);
  }

  -- ---- one event

  module _ (before : List Event) (e : Event) (behind : List Event) (split : events ≡ before ++ (e ∷ behind)) (k : IsNamed (run n before)) where
    abbrev W : World
    W = run n before

    later : events ≡ (before ++ e ∷ []) ++ behind
    later = split ∙ sym (append_assoc before (e ∷ []) behind)

    idle_named : (cause : Option VoidCause) → IsNamed (world_after W (idle_step W e cause))
    idle_named cause = record { at = k.at; mail_is = k.mail_is; history_is = k.history_is }

    came_known : (s : ℕ) (asked : Input) → HasCome W s asked → Known P s asked
    came_known s (input.Call moment c) came = tt
    came_known s (input.Tick moment word) came = tt
    came_known s (input.Arrival packet) came =
        let m : Sent = record { to = s; packet = packet } in
        let says = all_contained (λ (x : Sent). SaysSent P (OfBirths P) (G x.packet.from) x.packet.from x) (mail W.journal) m k.mail_is came in
        (says.0, says_of (OfBirths P) (G packet.from) packet.message says.1.0)
    came_known s input.Restart came = tt

    module _ (t : Taking) (takes : taking_in n W e ≡ Some t) (acts : Acts n W t) where
      abbrev S : ℕ
      S = t.server

      abbrev A : Store
      A = W.stores S

      abbrev B : Store
      B = (effect A t.asked).store

      behind_is : At (before ++ e ∷ []) S ≡ B
      behind_is =
          ap (λ (w : World). w.stores S) (run_more n (start n) before e) ∙ ap (λ (z : Step). z.stores S) (next_is n W e t takes)
          ∙ after_itself W.stores S B

      knows_before : (f : FileId) (b : ℕ) → Has A f b → P f S b
      knows_before f b has = given before (e ∷ behind) split S f b has

      knows_behind : (f : FileId) (b : ℕ) → Has B f b → P f S b
      knows_behind f b has =
          given (before ++ e ∷ []) behind later S f b (subst (λ (z : Store). Has z f b) (sym behind_is) has)

      sorted_behind : Sorted B
      sorted_behind = subst Sorted behind_is (sorted_at (before ++ e ∷ []) S acts.least acts.most)

      here : IsKnownAt P (G S) S A
      here = k.at S acts.least acts.most

      sorted_before : Sorted A
      sorted_before = sorted_at before S acts.least acts.most

      came : Known P S t.asked
      came = came_known S t.asked acts.came

      new : Freshly (G S) A t.asked
      new = gone before e behind split t takes acts

      sent_is : All (λ (m : Sent). SaysSent P (OfBirths P) (G m.packet.from) m.packet.from m) (effect A t.asked).out.sent
      sent_is =
          All-weaker (SaysSent P (OfBirths P) (G S) S) (λ (m : Sent). SaysSent P (OfBirths P) (G m.packet.from) m.packet.from m)
          (λ m says. subst (λ (z : ℕ). SaysSent P (OfBirths P) (G z) z m) (sym says.1.1) says) (effect A t.asked).out.sent
          (end_sent P (G S) S A here knows_before sorted_before t.asked knows_behind sorted_behind came new)

      maker_is : (u : MadeVersion) → IsMadeHere S B u → P u.file u.stamp.server (birth_of B u.file)
      maker_is u is =
          subst (λ (z : ℕ). P u.file z (birth_of B u.file)) (sym is.0)
          (subst (P u.file S) (sym (birth_is B u.file is.1 is.2)) (knows_behind u.file is.1 (inl is.2)))

      made_is : All (λ (u : Born). P u.made.file u.made.stamp.server u.birth) (born_in B (effect A t.asked).out.made)
      made_is =
          map_all (λ (u : Born). P u.made.file u.made.stamp.server u.birth) (born_at B) (versions_in (effect A t.asked).out.made)
          (All-weaker (IsMadeHere S B) (λ (u : MadeVersion). P u.file u.stamp.server (birth_of B u.file)) maker_is
          (versions_in (effect A t.asked).out.made) (makers before e S t.asked takes))

      acted_named : IsNamed (world_after W (effect_step W e S t.asked))
      acted_named = record {
        at = each_after (λ (s : ℕ) (z : Store). 1 ≤ s → s ≤ n → IsKnownAt P (G s) s z) W.stores S B k.at
            (λ least most. end_known P (G S) S A here knows_before sorted_before t.asked knows_behind sorted_behind came new);
        mail_is = All-append (λ (m : Sent). SaysSent P (OfBirths P) (G m.packet.from) m.packet.from m) (effect A t.asked).out.sent (mail W.journal) sent_is k.mail_is;
        history_is = All-append (λ (u : Born). P u.made.file u.made.stamp.server u.birth) (born_in B (effect A t.asked).out.made) W.history
            made_is k.history_is;
      }

    step_named : (o : Option Taking) → taking_in n W e ≡ o → (step : Step) → IsFramed n W e o step → IsNamed (world_after W step)
    step_named None none step f = subst (λ (z : Step). IsNamed (world_after W z)) (sym f.1) (idle_named f.0)
    step_named (Some t) takes step f = subst (λ (z : Step). IsNamed (world_after W z)) (sym f.1) (acted_named t takes f.0)

    pub next_named : IsNamed (run n (before ++ e ∷ []))
    next_named =
        subst IsNamed (sym (run_more n (start n) before e)) (step_named (taking_in n W e) refl (next n W e) (framed n W e))

  named_from : (before es : List Event) → events ≡ before ++ es → IsNamed (run n before) → IsNamed (run n events)
  named_from before [] split k = subst (λ (l : List Event). IsNamed (run n l)) (sym (split ∙ append-nil before)) k
  named_from before (e ∷ es) split k =
      named_from (before ++ e ∷ []) es (later before e es split k) (next_named before e es split k)

  all_named : IsNamed (run n events)
  all_named = named_from [] events refl start_named

  -- BIRTHS ARE KNOWN
  pub births_were_given_out : BirthsWereGivenOut n events
  births_were_given_out = record {
    edges = λ s least most file x e there is.
        all_at (λ (z : Edge). P file z.peer z.birth) x.edges e
        (edges_all P file x.edges ((all_named.at s least most).edges file x.birth (ends x.edges) (ap (option_map shape) there))) is;
    flags = λ s least most file own flag there is.
        all_at (OfBirths P file) own.flags flag ((all_named.at s least most).store.names.own file own there) is;
    entry_flags = λ s least most dir child e flag there is.
        all_at (OfBirths P child) e.flags flag ((all_named.at s least most).store.names.cells dir child e there).1 is;
    makers = λ u is. all_at (λ (z : Born). P z.made.file z.made.stamp.server z.birth) (run n events).history u all_named.history_is is;
    messages = λ m is.
        (all_contained (λ (x : Sent). SaysSent P (OfBirths P) (G x.packet.from) x.packet.from x) (mail (run n events).journal) m all_named.mail_is is).0;
  }

  -- and what is said of what is gone
  pub gone_said : (m : Sent) → Contains (mail (run n events).journal) m → SaysAll (OfBirths P) (G m.packet.from) m.packet.message
  gone_said m is =
      (all_contained (λ (x : Sent). SaysSent P (OfBirths P) (G x.packet.from) x.packet.from x) (mail (run n events).journal) m all_named.mail_is is).1.0

  -- and of each Bye that a server owes
  pub bye_said : (s : ℕ) → 1 ≤ s → s ≤ n → (f : FileId) (b peer peer_birth : ℕ)
      → IsAmong (At events s).intents (intent.Bye f b peer peer_birth) → G s f b
  bye_said s least most f b peer peer_birth is =
      (all_at (SaysIntent (OfBirths P) (Owed P (G s) s)) (At events s).intents (intent.Bye f b peer peer_birth)
      (all_named.at s least most).store.intents is).1

abbrev Anything : ℕ → FileId → ℕ → Type 0
Anything s f b = Unit {0}

anything : (a : Store) (asked : Input) → Freshly (λ f b. Unit {0}) a asked
anything a (input.Call moment call) = tt
anything a (input.Tick moment word) = tt
anything a (input.Arrival packet) = (λ ends links here to_come. tt, λ heard x stamp e goes. tt)
anything a input.Restart = tt

pub births_are_known : (n : ℕ) → IntentionsAreInOrder n → StoresAreWhole n → MakersHold n → BirthsAreKnown n
births_are_known n intends whole makers events =
    births_were_given_out n intends whole makers events Anything
    (λ before e behind split t takes acts. anything (store_after n before t.server) t.asked)
