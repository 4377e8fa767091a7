-- In every run each flag that is known is up to its server's own, and no two flags of one server
-- have one number.
use Rattle.std.proofs.Common.{ℕ, ◌≡◌, ◌==◌, zero, suc, Bool, true, false, cond, List, [], ◌∷◌, Option, None, Some, All, eq-eqb, refl, sym, ap, subst, ◌∙◌, inl, inr, ◌⊎◌}
use Rattle.std.specs.Option.{option_map}
use Rattle.std.proofs.lemmas.Bool.{eqb-true}
use Rattle.std.proofs.lemmas.List.Elements.{All-append, All-nil}
use Rattle.law_frame.specs.pg_run.pg_base.declared.id.FileId.{FileId}
use Rattle.law_frame.specs.pg_run.pg_base.Id.{file_cmp}
use Rattle.law_frame.proofs.pg_run.pg_base.Maps.{lookup-insert_entry}
use Rattle.law_frame.proofs.pg_run.pg_base.Orders.{file_total, is_same_file-refl}
use Rattle.law_frame.specs.pg_run.pg_content.Content.{Among}
use Rattle.law_frame.proofs.pg_run.pg_content.Members.{all_among, among_all}
use Rattle.law_frame.specs.pg_run.pg_entries.declared.entry.Entry.{Entry}
use Rattle.law_frame.specs.pg_run.pg_event.declared.entry.VoidCause.{VoidCause}
use Rattle.law_frame.specs.pg_run.pg_event.declared.event.Event.{Event}
use Rattle.law_frame.proofs.pg_run.theory_flood.Flood.{after_itself}
use Rattle.law_frame.specs.pg_run.pg_msg.declared.message.Sent.{Sent}
use Rattle.law_frame.specs.pg_run.pg_msg.declared.update.Update.TheVariants as update
use Rattle.law_frame.specs.pg_run.pg_names.declared.attributes.Attributes.{Attributes}
use Rattle.law_frame.specs.pg_run.pg_names.Names.{new_names, or_blank, own_of}
use Rattle.law_frame.proofs.pg_run.pg_names.Holding.{begun_same}
use Rattle.law_frame.specs.pg_run.pg_register.declared.flag.Flag.{Flag}
use Rattle.law_frame.specs.pg_run.pg_register.Flag.{flag_of}
use Rattle.law_frame.specs.pg_run.pg_register.Place.{root}
use Rattle.law_frame.specs.pg_run.pg_replica.declared.replica.Replica.{Replica}
use Rattle.law_frame.specs.pg_run.pg_replica.Root.{first_root}
use Rattle.law_frame.specs.pg_run.pg_store.declared.store.Store.{Store}
use Rattle.law_frame.specs.pg_run.pg_store.Start.{first_flag, first_flags, root_own}
use Rattle.law_frame.specs.pg_run.pg_store.Store.{new_store}
use Rattle.law_frame.specs.pg_run.pg_store.Together.{AreTogether, birth_at}
use Rattle.law_frame.specs.pg_run.pg_server.declared.input.Input.{Input}
use Rattle.law_frame.specs.pg_run.pg_server.declared.input.Input.TheVariants as input
use Rattle.law_frame.specs.pg_run.pg_server.Local.{Effect, effect, first_effect}
use Rattle.law_frame.specs.pg_run.Births.{BirthsMoveInEvents}
use Rattle.law_frame.specs.pg_run.Going.{FlagsAreMadeWhereHeld}
use Rattle.law_frame.specs.pg_run.Grown.{EventsGrow}
use Rattle.law_frame.specs.pg_run.Journal.{mail}
use Rattle.law_frame.specs.pg_run.Known.{IsFlagOf}
use Rattle.law_frame.specs.pg_run.Run.{Taking, World, effect_step, idle_step, run, start, taking_in, world_after}
use Rattle.law_frame.proofs.pg_run.Event.{Comes, effect_is, end_of, store_is}
use Rattle.law_frame.proofs.pg_run.Frame.{Acts, HasCome, acts_is, each_after, holds_in_runs, no_server_comes}
use Rattle.law_frame.proofs.pg_run.Lists.{contained_among}
use Rattle.law_births.specs.Flags.{AnyBye, SaysIntent, SaysStore}
use Rattle.law_births.proofs.Joined.{join_all}
use Rattle.law_births.proofs.NamesSay.{says_begin}
use Rattle.law_contents.specs.Together.{HoldBoth}
use Rattle.law_golds.specs.Premises.{FirstEffectsAreWhole, NextIdsAreAway}
use Rattle.law_golds.proofs.Effects.{SaysPacket, end_fine, sent_fine}
use Rattle.law_golds.proofs.Fine.{IsFine}
use Rattle.law_golds.proofs.Kept.{GoesOn, flags_at, grows_on}
use Rattle.law_golds.proofs.Known.{all_sent_less, store_less}
use Rattle.law_golds.proofs.Own.{IsOwn, Stands}
use Rattle.law_golds.proofs.Says.{SaysSent}

-- stores, mail: servers have and messages bring only flags that are known
-- each: and each is up to its server's own, or of a birth that is past
-- one: no two of one server and birth have one number
pub record AreOwn (n : ℕ) (w : World) : Type 0 where
  pub stores : (s : ℕ) → SaysStore (IsFlagOf n w) AnyBye s (w.stores s)
  pub mail_is : All (SaysSent (IsFlagOf n w)) (mail w.journal)
  pub each : (f : FileId) (g : Flag) → IsFlagOf n w f g → Stands g.server (w.stores g.server) f g
  pub one : (f : FileId) (g h : Flag) → IsFlagOf n w f g → IsFlagOf n w f h → g.server ≡ h.server
      → g.birth ≡ h.birth → g.number ≡ h.number → g ≡ h

-- ---- the start

module _ (n : ℕ) where
  -- a server's first flag
  abbrev IsFirst : Flag → Type 0
  IsFirst g = g ≡ first_flag g.server

  first_all : (k : ℕ) → All IsFirst (first_flags k)
  first_all zero = All-nil IsFirst
  first_all (suc k) = join_all IsFirst (first_flags k) (first_flag (suc k)) (first_all k) refl

  first_is : (g : Flag) → Among g (first_flags n) → g ≡ first_flag g.server
  first_is g there = all_among IsFirst (first_flags n) g (first_all n) there

  same_first : (g h : Flag) → Among g (first_flags n) → Among h (first_flags n) → g.server ≡ h.server → g ≡ h
  same_first g h a b same = first_is g a ∙ ap first_flag same ∙ sym (first_is h b)

  -- the first flag of a server that is found is its own
  found_by : (g h : Flag) (o : Option Flag) (t : Bool) → (h.server == g.server) ≡ t → (h.server ≡ g.server → g ≡ h)
      → (t ≡ false → o ≡ Some g) → cond t (Some h) o ≡ Some g
  found_by g h o true is same rest = ap Some (sym (same (eqb-true h.server g.server is)))
  found_by g h o false is same rest = rest refl

  found_in : (gs : List Flag) (g : Flag) → ((h : Flag) → Among h gs → h.server ≡ g.server → g ≡ h)
      → Among g gs → flag_of gs g.server ≡ Some g
  found_in [] g same there = absurd there
  found_in (h ∷ gs) g same (inl here) =
      found_by g h (flag_of gs g.server) (h.server == g.server) refl (same h (inl refl))
      (λ apart. absurd (let z : true ≡ false =
      sym (ap (λ (x : Flag). h.server == x.server) here ∙ eq-eqb h.server h.server refl) ∙ apart in cc))
  found_in (h ∷ gs) g same (inr rest) =
      found_by g h (flag_of gs g.server) (h.server == g.server) refl (same h (inl refl))
      (λ apart. found_in gs g (λ x there. same x (inr there)) rest)

  root_birth : (s : ℕ) → birth_at (new_store n s) root ≡ Some 1
  root_birth s =
      ap (option_map (λ (x : Replica). x.birth))
      (lookup-insert_entry file_cmp file_total root root (first_root s n) [])
      ∙ ap (λ t. option_map (λ (x : Replica). x.birth) (cond t (Some (first_root s n)) None))
      (is_same_file-refl root)

  root_flags : (s : ℕ) → flags_at (new_store n s).names root ≡ first_flags n
  root_flags s = ap (λ o. (or_blank root (own_of o)).flags) (begun_same (new_names s) root (root_own n) true)

  first_own : (f : FileId) (g : Flag) → f ≡ root → Among g (first_flags n)
      → IsOwn g.server (new_store n g.server) f g
  first_own f g is there =
      let P : FileId → Type 0 = (λ q. IsOwn g.server (new_store n g.server) q g) in
      subst P (sym is) (record {
        birth = root_birth g.server ∙ ap Some (sym (ap (λ (x : Flag). x.birth) (first_is g there)));
        own = g;
        there = ap (λ (gs : List Flag). flag_of gs g.server) (root_flags g.server)
            ∙ found_in (first_flags n) g (λ h among same. same_first g h there among (sym same)) there;
        upto = inl refl;
      })

  start_each : (f : FileId) (g : Flag) → IsFlagOf n (start n) f g → Stands g.server ((start n).stores g.server) f g
  start_each f g (inl first) = inl (first_own f g first.0 first.1)
  start_each f g (inr raised) = absurd raised

  start_one : (f : FileId) (g h : Flag) → IsFlagOf n (start n) f g → IsFlagOf n (start n) f h
      → g.server ≡ h.server → g.birth ≡ h.birth → g.number ≡ h.number → g ≡ h
  start_one f g h (inl a) (inl b) server birth number = same_first g h a.1 b.1 server
  start_one f g h (inl a) (inr b) server birth number = absurd b
  start_one f g h (inr a) b server birth number = absurd a

  start_flags : All (IsFlagOf n (start n) root) (first_flags n)
  start_flags =
      among_all (IsFlagOf n (start n) root) (first_flags n) (λ g there. inl (refl, there))

  start_own : AreOwn n (start n)
  start_own = record {
    stores = λ s. record {
      names = says_begin (IsFlagOf n (start n)) s (new_names s) root (root_own n) true start_flags (record {
        server = refl;
        own = λ q b there. absurd (let z : ◌≡◌ {A = Option Attributes} None (Some b) = there in cc);
        cells = λ d g e there. absurd (let z : ◌≡◌ {A = Option Entry} None (Some e) = there in cc);
      });
      intents = All-nil (SaysIntent (IsFlagOf n (start n)) AnyBye);
    };
    mail_is = All-nil (SaysSent (IsFlagOf n (start n)));
    each = start_each;
    one = start_one;
  }

  -- ---- nothing happens at a server

  module _ (w : World) (event : Event) (cause : Option VoidCause) (k : AreOwn n w) where
    abbrev I : World
    I = world_after w (idle_step w event cause)

    idle_on : (f : FileId) (g : Flag) → IsFlagOf n w f g → IsFlagOf n I f g
    idle_on f g (inl first) = inl first
    idle_on f g (inr raised) = inr (inr raised)

    idle_back : (f : FileId) (g : Flag) → IsFlagOf n I f g → IsFlagOf n w f g
    idle_back f g (inl first) = inl first
    idle_back f g (inr (inl none)) = absurd none
    idle_back f g (inr (inr raised)) = inr raised

    idle_own : AreOwn n I
    idle_own = record {
      stores = λ s. store_less (IsFlagOf n w) (IsFlagOf n I) idle_on s (w.stores s) (k.stores s);
      mail_is = all_sent_less (IsFlagOf n w) (IsFlagOf n I) idle_on (mail w.journal) k.mail_is;
      each = λ f g is. k.each f g (idle_back f g is);
      one = λ f g h a b. k.one f g h (idle_back f g a) (idle_back f h b);
    }

-- ---- a server takes an input

module _ (n : ℕ) (both : HoldBoth n) (grow : EventsGrow n) (moves : BirthsMoveInEvents n) (whole : FirstEffectsAreWhole n)
    (away : NextIdsAreAway n) where
  module _ (events : List Event) (event : Event) (t : Taking)
      (is : taking_in n (run n events) event ≡ Some t) (act : Acts n (run n events) t)
      (k : AreOwn n (run n events)) where
    abbrev W : World
    W = run n events

    abbrev S : ℕ
    S = t.server

    abbrev A : Store
    A = W.stores S

    abbrev V : World
    V = world_after W (effect_step W event S t.asked)

    abbrev Q : FileId → Flag → Type 0
    Q = IsFlagOf n W

    came_by : (asked : Input) → HasCome W S asked → Comes (SaysPacket Q) asked
    came_by (input.Call moment c) came = tt
    came_by (input.Tick moment word) came = tt
    came_by (input.Arrival packet) came =
        let m : Sent = record { to = S; packet = packet } in
        all_among (SaysSent Q) (mail W.journal) m k.mail_is (contained_among (mail W.journal) m came)
    came_by input.Restart came = tt

    before : (f : FileId) (g : Flag) → Q f g → g.server ≡ S → Stands S A f g
    before f g there same =
        let P : ℕ → Type 0 = (λ j. Stands j (W.stores j) f g) in subst P same (k.each f g there)

    together : AreTogether A
    together = (both events S act.least act.most).together

    on : GoesOn A (first_effect A t.asked).store
    on =
        grows_on A (first_effect A t.asked).store (moves events event S t.asked is).0 together (both events S act.least act.most).births
        (grow events event S t.asked is).0

    fine : IsFine Q S (end_of A t.asked)
    fine =
        end_fine n S A t.asked Q (k.stores S) before k.one together (away events S act.least act.most)
        (whole events event t is) on (came_by t.asked act.came)

    sent : All (SaysSent (λ f g. Q f g ⊎ Among (update.Flag f g) (end_of A t.asked).work.made)) (effect A t.asked).out.sent
    sent =
        sent_fine n S A t.asked Q (k.stores S) before k.one together (away events S act.least act.most)
        (whole events event t is) on (came_by t.asked act.came)

    -- what is known then
    abbrev Then : FileId → Flag → Type 0
    Then f g = Q f g ⊎ Among (update.Flag f g) (end_of A t.asked).work.made

    made_is : (effect A t.asked).out.made ≡ (end_of A t.asked).work.made
    made_is = ap (λ (e : Effect). e.out.made) (effect_is A t.asked)

    to_then : (f : FileId) (g : Flag) → IsFlagOf n V f g → Then f g
    to_then f g (inl first) = inl (inl first)
    to_then f g (inr (inl made)) = inr (subst (Among (update.Flag f g)) made_is made)
    to_then f g (inr (inr raised)) = inl (inr raised)

    old : (f : FileId) (g : Flag) → Q f g → IsFlagOf n V f g
    old f g (inl first) = inl first
    old f g (inr raised) = inr (inr raised)

    from_then : (f : FileId) (g : Flag) → Then f g → IsFlagOf n V f g
    from_then f g (inl was) = old f g was
    from_then f g (inr made) = inr (inl (subst (Among (update.Flag f g)) (sym made_is) made))

    store_then : SaysStore (IsFlagOf n V) AnyBye S (effect A t.asked).store
    store_then =
        subst (SaysStore (IsFlagOf n V) AnyBye S) (sym (store_is A t.asked))
        (store_less Then (IsFlagOf n V) from_then S (end_of A t.asked).store fine.store)

    -- of this server, and of another
    at_end : V.stores S ≡ (end_of A t.asked).store
    at_end = after_itself W.stores S (effect A t.asked).store ∙ store_is A t.asked

    here : (f : FileId) (g : Flag) → Then f g → g.server ≡ S → Stands g.server (V.stores g.server) f g
    here f g there same =
        let P : ℕ → Type 0 = (λ j. Stands j (V.stores j) f g) in
        let R : Store → Type 0 = (λ b. Stands S b f g) in
        subst P (sym same) (subst R (sym at_end) (fine.own f g there same))

    each_by : (f : FileId) (g : Flag) (u : Bool) → (g.server == S) ≡ u → Then f g
        → Stands g.server (V.stores g.server) f g
    each_by f g true same there = here f g there (eqb-true g.server S same)
    each_by f g false apart (inl was) =
        subst (λ (b : Store). Stands g.server b f g)
        (sym (ap (λ u. cond u (effect A t.asked).store (W.stores g.server)) apart)) (k.each f g was)
    each_by f g false apart (inr made) =
        absurd (let z : true ≡ false = sym (eq-eqb g.server S (fine.made f g made).0) ∙ apart in cc)

    -- what is made is of the birth that is held then
    held_then : (f : FileId) (g : Flag) → Among (update.Flag f g) (effect A t.asked).out.made
        → (g.server ≡ S) × (birth_at (effect A t.asked).store f ≡ Some g.birth)
    held_then f g made =
        let there = fine.made f g (subst (Among (update.Flag f g)) made_is made) in
        (there.0, ap (λ (b : Store). birth_at b f) (store_is A t.asked) ∙ there.1)

    acts_own : AreOwn n V
    acts_own = record {
      stores = each_after (λ j b. SaysStore (IsFlagOf n V) AnyBye j b) W.stores S (effect A t.asked).store
          (λ j. store_less Q (IsFlagOf n V) old j (W.stores j) (k.stores j)) store_then;
      mail_is = All-append (SaysSent (IsFlagOf n V)) (effect A t.asked).out.sent (mail W.journal)
          (all_sent_less Then (IsFlagOf n V) from_then (effect A t.asked).out.sent sent)
          (all_sent_less Q (IsFlagOf n V) old (mail W.journal) k.mail_is);
      each = λ f g there. each_by f g (g.server == S) refl (to_then f g there);
      one = λ f g h a b. fine.one f g h (to_then f g a) (to_then f h b);
    }

  -- IN EVERY RUN
  pub own_run : (events : List Event) → AreOwn n (run n events)
  own_run events =
      holds_in_runs n (AreOwn n) (record {
        first = start_own n;
        idle = idle_own n;
        comes = λ past event server is k. absurd (no_server_comes event server is);
        acts = acts_own;
      }) events

  -- FLAGS ARE MADE WHERE HELD
  pub flags_made : FlagsAreMadeWhereHeld n
  flags_made events event s asked takes f g there =
      let t : Taking = record { server = s; asked = asked } in
      held_then events event t takes (acts_is n (run n events) event t takes) (own_run events) f g
      (contained_among (effect ((run n events).stores s) asked).out.made (update.Flag f g) there)
