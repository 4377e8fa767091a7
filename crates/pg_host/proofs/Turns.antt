-- Turns one behind another, with what is saved between.
use Rattle.std.proofs.Common.{◌≡◌, ◌⊎◌, inl, inr, ℕ, zero, suc, ◌+◌, ◌-◌, ◌%◌, ◌^◌, ◌≤◌, ◌==◌, min, Bool, true, false, List, [], ◌∷◌, ◌++◌, length, Option, Some, None, refl, sym, ◌∙◌, ap, subst, arith, length-append}
use Rattle.std.proofs.lemmas.List.{append-nil}
use Rattle.pg_checkpoint.specs.Saves.{AreSettled, KeepsRest, Loads, SlotsLeave}
use Rattle.pg_checkpoint.specs.Slots.{Slot}
use Rattle.pg_disk.specs.Told.{Told}
use Rattle.pg_disk.specs.Synced.{KeepsOthers}
use Rattle.pg_disk.proofs.Tries.{keeps_none}
use Rattle.pg_event.specs.declared.status.Status.{Status}
use Rattle.pg_event.specs.declared.status.Status.TheVariants as status
use Rattle.pg_log.specs.Log.{Stands}
use Rattle.pg_saving.specs.Saves.{LeavesSaved}
use Rattle.pg_store.specs.declared.store.Store.{Store}
use Rattle.pg_server.specs.Local.{effect_of}
use Rattle.pg_host.specs.declared.asking.Asked.{Asked}
use Rattle.pg_host.specs.Causes.{IsFault, IsWhole}
use Rattle.pg_host.specs.Entries.{entries_for}
use Rattle.pg_host.specs.Host.{Ends, Goes, Runs, Scene, Turns, inputs_in, scene, stops}
use Rattle.pg_host.specs.Inputs.{asked}
use Rattle.pg_host.specs.Savings.{EndsSafely, GoesOn, IsNear, RunsOn, Saves, StandsWith, is_due}
use Rattle.pg_host.specs.Sends.{after_all}
use Rattle.pg_host.specs.Slots.{Agree, AgreeSince, AreWell, KeepsFiles, SavesIf, SlotsBehind, between}
use Rattle.pg_host.proofs.Asked.{asked-append}
use Rattle.pg_host.proofs.Behind.{mod_on, own_count, saving_agrees, saving_well, slots-append, stands_with, turn_agrees, turn_well}
use Rattle.pg_host.proofs.Ended.{IsPart, fault_part, not_whole}
use Rattle.pg_host.proofs.Files.{files_since_then, slots_load}
use Rattle.pg_host.proofs.Going.{ends_of, ends_within, goes_ends, goes_none, goes_saved, goes_then}
use Rattle.pg_host.proofs.Leaves.{none_leaves, regroup}
use Rattle.pg_host.proofs.Whole.{runs_failed, runs_spent, runs_stopped}

module _ (server servers : ℕ) where
  -- ---- nothing was done

  pub saves_none : (appended count : ℕ) (a : Scene) → Saves server servers appended count [] a a
  saves_none appended count a = record {
    well = λ entries with w. subst (λ (es : List (List ℕ)). AreWell server servers es a.disk a.store) (sym (append-nil entries)) w;
    agree = λ entries with w. none_agrees entries with w;
    saved = λ entries with was loads. (was, loads, refl);
  }
    where
      none_agrees : (entries : List (List ℕ)) → StandsWith entries count a → AreWell server servers entries a.disk a.store → AgreeSince server servers a.disk a.disk
      none_agrees entries with w = turn_agrees server servers entries [] a.disk a.disk a.store (keeps_none 0 a.disk) w refl (none_leaves a.log a.disk entries [] with.stands)

  -- ---- one behind another

  module _ (appended count0 count1 : ℕ) (own more : List Asked) (a b d : Scene)
      (stands : (entries : List (List ℕ)) → Stands a.log a.disk entries → Stands b.log b.disk (entries ++ entries_for own))
      (near : IsNear b.log) (counted : count1 ≡ min (count0 + length own) (2 ^ 64 - 1)) (store : b.store ≡ after_all a.store own) (chosen : b.disk.chosen ≡ a.disk.chosen) where
    mid : (entries : List (List ℕ)) → StandsWith entries count0 a → StandsWith (entries ++ entries_for own) count1 b
    mid entries with = stands_with entries own count0 count1 a b with (stands entries with.stands) near counted

    pub agree_then : (entries : List (List ℕ)) → StandsWith entries count0 a → AgreeSince server servers a.disk b.disk
        → (StandsWith (entries ++ entries_for own) count1 b → AgreeSince server servers b.disk d.disk) → AgreeSince server servers a.disk d.disk
    agree_then entries with first second = files_since_then (Agree server servers) a.disk b.disk d.disk chosen first (second (mid entries with))

    pub saves_then : Saves server servers appended count0 own a b → Saves server servers (appended + length own) count1 more b d → Saves server servers appended count0 (own ++ more) a d
    saves_then g h = record {
      well = λ entries with w. subst (λ (es : List (List ℕ)). AreWell server servers es d.disk d.store) (regroup entries own more)
          (h.well (entries ++ entries_for own) (mid entries with) (g.well entries with w));
      agree = λ entries with w. agree_then entries with (g.agree entries with w) (λ there. h.agree (entries ++ entries_for own) there (g.well entries with w));
      saved = λ entries with was loads.
          let first = g.saved entries with was loads in
          let there : StandsWith (entries ++ entries_for own) count1 b = mid entries with in
          let second = h.saved (entries ++ entries_for own) there first.0 first.1 in
          let all : count1 ≡ count0 + length own = count_is entries with there in (
            second.0,
            second.1,
            slots-append server servers appended count0 a.store was first.0 second.0 own more first.2
                (subst (λ (s : Store). SlotsBehind server servers (appended + length own) (count0 + length own) s first.0 more second.0) store
                (subst (λ (n : ℕ). SlotsBehind server servers (appended + length own) n b.store first.0 more second.0) all second.2)),
          );
    }
      where
        count_is : (entries : List (List ℕ)) → StandsWith entries count0 a → StandsWith (entries ++ entries_for own) count1 b → count1 ≡ count0 + length own
        count_is entries with there = omega (arith, with.counted, there.counted, length-append entries (entries_for own), own_count own)

  -- ---- one turn, and what is saved behind it

  module _ (nt ct dt : Type 0) (port : ℕ) (came : Option Bool) (since0 count0 since1 count1 : ℕ) (a b : Scene) (turned : Turns nt ct dt port came a b) (keeps : dt → KeepsOthers 0 a.disk b.disk) (near : IsNear b.log)
      (entries_are : count1 ≡ min (count0 + inputs_in came) (2 ^ 64 - 1)) (since_are : since1 ≡ (since0 + inputs_in came) % between) (disk : Told) (rest : dt → KeepsRest b.disk disk)
      (any_moment : dt → AreSettled b.disk → (was : Option Slot) → Loads b.disk was → SlotsLeave b.disk disk (LeavesSaved server servers count1 b.store was)) where
    abbrev g : Goes nt ct dt port 1 (stops came) a b
    g = turned.0

    abbrev own : List Asked
    own = asked g.gave g.moments g.words

    abbrev d : Scene
    d = scene b.net b.takes b.clock disk b.log b.store

    counted : count1 ≡ min (count0 + length own) (2 ^ 64 - 1)
    counted = let n : length own ≡ inputs_in came = turned.1 in omega (arith, entries_are, n)

    there : dt → (entries : List (List ℕ)) → StandsWith entries count0 a → StandsWith (entries ++ entries_for own) count1 b
    there tells entries with = stands_with entries own count0 count1 a b with (g.stands tells entries with.stands) near counted

    well : dt → (entries : List (List ℕ)) → AreWell server servers entries a.disk a.store → AreWell server servers (entries ++ entries_for own) b.disk b.store
    well tells entries w = turn_well server servers entries own a.disk b.disk a.store (keeps tells) w g.read b.store g.store

    pub turned_agree : dt → (entries : List (List ℕ)) → StandsWith entries count0 a → AreWell server servers entries a.disk a.store → AgreeSince server servers a.disk disk
    turned_agree tells entries with w =
        let on = there tells entries with in
        let wb = well tells entries w in
        files_since_then (Agree server servers) a.disk b.disk disk (g.others tells).chosen
        (turn_agrees server servers entries own a.disk b.disk a.store (keeps tells) w g.read (g.leaves tells entries with.stands))
        (saving_agrees server servers (entries ++ entries_for own) count1 b.disk disk b.store (rest tells) wb on.counted b.log on.stands (any_moment tells wb.settled wb.slot wb.loads))

    pub ends_saving : EndsSafely nt ct dt server servers port count0 1 a d
    ends_saving = record {
      ends = ends_of nt ct dt port 1 1 (stops came) a d (omega arith) (goes_saved nt ct dt port 1 a b disk rest (stops came) g);
      agree = turned_agree;
    }

    module _ (saved : dt → (was : Option Slot) → Loads b.disk was → (now : Option Slot) × Loads disk now × SavesIf (is_due came since1) server servers count1 b.store was now)
        (settled : dt → AreSettled b.disk → AreSettled disk) where
      well_on : dt → (entries : List (List ℕ)) → StandsWith entries count0 a → AreWell server servers entries a.disk a.store → AreWell server servers (entries ++ entries_for own) disk b.store
      well_on tells entries with w =
          let on = there tells entries with in
          let wb = well tells entries w in
          let s = saved tells wb.slot wb.loads in
          saving_well server servers (entries ++ entries_for own) count1 b.disk disk b.store (rest tells) wb on.counted (is_due came since1) s.0 (settled tells wb.settled) s.1 s.2

      -- the slots behind one input, or none
      slots_by : (c : Option Bool) (since : ℕ) (own_ : List Asked) (appended count : ℕ) (s : Store) (was now : Option Slot) → length own_ ≡ inputs_in c → since ≡ (appended + inputs_in c) % between → count1 ≡ count + inputs_in c
          → s ≡ after_all a.store own_ → SavesIf (is_due c since) server servers count1 s was now → SlotsBehind server servers appended count a.store was own_ now
      slots_by None since [] appended count s was now n is all store saves = saves
      slots_by None since (x ∷ xs) appended count s was now n is all store saves = absurd (omega (arith, n))
      slots_by (Some stop) since [] appended count s was now n is all store saves = absurd (omega (arith, n))
      slots_by (Some stop) since (x ∷ y ∷ xs) appended count s was now n is all store saves = absurd (omega (arith, n))
      slots_by (Some stop) since (x ∷ []) appended count s was now n is all store saves = (
        now,
        subst (λ (k : ℕ). SavesIf (k == 0) server servers (count + 1) (effect_of a.store x.input).store was now) is
            (subst (λ (k : ℕ). SavesIf (since == 0) server servers k (effect_of a.store x.input).store was now) all
            (subst (λ (t : Store). SavesIf (since == 0) server servers count1 t was now) store saves)),
        refl,
      )

      saves_one : dt → (appended : ℕ) → since0 ≡ appended % between → Saves server servers appended count0 own a d
      saves_one tells appended is = record {
        well = well_on tells;
        agree = turned_agree tells;
        saved = λ entries with was loads.
            let on = there tells entries with in
            let s = saved tells was (slots_load a.disk b.disk (keeps tells) was loads) in
            let n : length own ≡ inputs_in came = turned.1 in
            let since_is : since1 ≡ (appended + inputs_in came) % between =
            since_are ∙ ap (λ (k : ℕ). (k + inputs_in came) % between) is ∙ mod_on appended (inputs_in came) in
            let all : count1 ≡ count0 + inputs_in came = omega (arith, with.counted, on.counted, length-append entries (entries_for own), own_count own, n) in
            (s.0, s.1, slots_by came since1 own appended count0 b.store was s.0 n since_is all g.store s.2);
      }

      pub goes_on_one : GoesOn nt ct dt server servers port since0 count0 since1 count1 1 (stops came) a d
      goes_on_one =
          let n : length own ≡ inputs_in came = turned.1 in
          record {
            goes = goes_saved nt ct dt port 1 a b disk rest (stops came) g;
            near = near;
            counted = counted;
            since = since_are ∙ ap (λ (k : ℕ). (since0 + k) % between) (sym n);
            saves = saves_one;
          }

  -- ---- a turn that failed

  pub ends_safely : (nt ct dt : Type 0) (port count : ℕ) (a b : Scene) → Ends nt ct dt port 1 a b → (dt → KeepsOthers 0 a.disk b.disk) → EndsSafely nt ct dt server servers port count 1 a b
  ends_safely nt ct dt port count a b e keeps = record {
    ends = e;
    agree = λ tells entries with w. turn_agrees server servers entries (asked e.gave e.moments e.words) a.disk b.disk a.store (keeps tells) w e.read (e.leaves tells entries with.stands);
  }

  -- ---- all turns

  module _ (nt ct dt : Type 0) (port : ℕ) where
    abbrev pub goes_on_none : (since count : ℕ) (a : Scene) → since ≡ since % between → IsNear a.log → count ≡ min count (2 ^ 64 - 1) → GoesOn nt ct dt server servers port since count since count 0 false a a
    goes_on_none since count a small near bound = record {
      goes = goes_none nt ct dt port a;
      near = near;
      counted = let own : List Asked = [] in let none : count + length own ≡ count = omega arith in bound ∙ ap (λ (k : ℕ). min k (2 ^ 64 - 1)) (sym none);
      since = let own : List Asked = [] in let none : since + length own ≡ since = omega arith in small ∙ ap (λ (k : ℕ). k % between) (sym none);
      saves = λ tells appended is. saves_none appended count a;
    }

    module _ (s0 c0 s1 c1 : ℕ) (m : ℕ) (a b : Scene) (x : GoesOn nt ct dt server servers port s0 c0 s1 c1 m false a b) where
      abbrev own_x : List Asked
      own_x = asked x.goes.gave x.goes.moments x.goes.words

      abbrev pub goes_on_then : (s2 c2 n : ℕ) (stop : Bool) (d : Scene) → GoesOn nt ct dt server servers port s1 c1 s2 c2 n stop b d → GoesOn nt ct dt server servers port s0 c0 s2 c2 (m + n) stop a d
      goes_on_then s2 c2 n stop d y =
          let more : List Asked = asked y.goes.gave y.goes.moments y.goes.words in
          let all : asked (x.goes.gave ++ y.goes.gave) (x.goes.moments ++ y.goes.moments) (x.goes.words ++ y.goes.words) ≡ own_x ++ more =
          asked-append x.goes.gave y.goes.gave x.goes.moments x.goes.words y.goes.moments y.goes.words x.goes.enough in
          let long : length (asked (x.goes.gave ++ y.goes.gave) (x.goes.moments ++ y.goes.moments) (x.goes.words ++ y.goes.words)) ≡ length own_x + length more = ap length all ∙ length-append own_x more in
          record {
            goes = goes_then nt ct dt port m n stop a b d x.goes y.goes;
            near = y.near;
            counted = omega (arith, x.counted, y.counted, long);
            since = y.since ∙ ap (λ (k : ℕ). (k + length more) % between) x.since ∙ mod_on (s0 + length own_x) (length more)
                ∙ ap (λ (k : ℕ). k % between) (let e : s0 + length own_x + length more ≡ s0 + length (asked (x.goes.gave ++ y.goes.gave) (x.goes.moments ++ y.goes.moments) (x.goes.words ++ y.goes.words)) = omega (arith, long) in e);
            saves = λ tells appended is.
                subst (λ (l : List Asked). Saves server servers appended c0 l a d) (sym all)
                (saves_then appended c0 c1 own_x more a b d (x.goes.stands tells) x.near x.counted x.goes.store (x.goes.others tells).chosen (x.saves tells appended is)
                (y.saves tells (appended + length own_x) (x.since ∙ ap (λ (k : ℕ). (k + length own_x) % between) is ∙ mod_on appended (length own_x))));
          }

      pub goes_on_ends : (d : Scene) → EndsSafely nt ct dt server servers port c1 1 b d → (appended : ℕ) → s0 ≡ appended % between → dt → (entries : List (List ℕ)) → StandsWith entries c0 a
          → AreWell server servers entries a.disk a.store → AgreeSince server servers a.disk d.disk
      goes_on_ends d e appended is tells entries with w =
          let saves = x.saves tells appended is in
          agree_then appended c0 c1 own_x [] a b d (x.goes.stands tells) x.near x.counted x.goes.store (x.goes.others tells).chosen entries with (saves.agree entries with w)
          (λ there. e.agree tells (entries ++ entries_for own_x) there (saves.well entries with w))

    module _ (appended s0 c0 s1 c1 turns : ℕ) (is : s0 ≡ appended % between) (a b : Scene) where
      -- `stop` came
      pub runs_on_stopped : (k s2 c2 : ℕ) (d : Scene) → k + 1 ≤ turns → GoesOn nt ct dt server servers port s0 c0 s1 c1 k false a b → GoesOn nt ct dt server servers port s1 c1 s2 c2 1 true b d
          → RunsOn nt ct dt server servers port appended c0 turns status.Done a d
      runs_on_stopped k s2 c2 d within x y =
          let all = goes_on_then s0 c0 s1 c1 k a b x s2 c2 1 true d y in
          record {
            runs = runs_stopped nt ct dt port turns a b d k within x.goes y.goes;
            agree = λ tells entries with w. (all.saves tells appended is).agree entries with w;
            saves = λ whole tells. all.saves tells appended is;
          }

      -- all takes were made
      pub runs_on_spent : GoesOn nt ct dt server servers port s0 c0 s1 c1 turns false a b → RunsOn nt ct dt server servers port appended c0 turns status.TurnsSpent a b
      runs_on_spent x = record {
        runs = runs_spent nt ct dt port turns a b b x.goes;
        agree = λ tells entries with w. (x.saves tells appended is).agree entries with w;
        saves = λ whole tells. x.saves tells appended is;
      }

      -- something failed
      pub runs_on_failed : (k l m n o : ℕ) (s : Status) (d : Scene) → k + 1 ≤ turns → IsFault l m n o s → GoesOn nt ct dt server servers port s0 c0 s1 c1 k false a b → EndsSafely nt ct dt server servers port c1 1 b d
          → RunsOn nt ct dt server servers port appended c0 turns s a d
      runs_on_failed k l m n o s d within fault x e = record {
        runs = runs_failed nt ct dt port turns a b d k l m n o s within fault x.goes e.ends;
        agree = goes_on_ends s0 c0 s1 c1 k a b x d e appended is;
        saves = λ whole. absurd (not_whole s (fault_part l m n o s fault) whole);
      }
