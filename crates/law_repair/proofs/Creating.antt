-- A thing is created where a client is told that it was made: no server held it before.
use Rattle.std.proofs.Common.{ℕ, ◌≡◌, ◌≤◌, ◌+◌, zero, suc, Bool, true, false, cond, List, [], ◌∷◌, ◌++◌, Option, None, Some, Result, Ok, Err, is_some, refl, sym, ap, subst, ◌∙◌, inl, inr, ◌⊎◌, arith}
use Rattle.std.proofs.lemmas.Bool.{false≢true, false_from_ne_true, or_from, or_left, or_right}
use Rattle.std.proofs.lemmas.List.{append-nil}
use Rattle.std.proofs.lemmas.Option.{none-some, same_Some}
use Rattle.pg_run.specs.pg_base.declared.id.FileId.{FileId}
use Rattle.pg_run.specs.pg_base.declared.id.Kind.{Kind}
use Rattle.pg_run.specs.pg_base.declared.id.Kind.TheVariants.{Dir, File}
use Rattle.pg_run.specs.pg_base.declared.policy.Policy.{Policy}
use Rattle.pg_run.specs.pg_base.declared.policy.Policy.TheVariants.{Last}
use Rattle.pg_run.specs.pg_base.declared.stamp.Stamp.{Stamp}
use Rattle.pg_run.specs.pg_announced.Announced.{first_of}
use Rattle.pg_run.specs.pg_call.declared.call.Call.{Call}
use Rattle.pg_run.specs.pg_call.declared.call.Call.TheVariants as call
use Rattle.pg_run.specs.pg_call.declared.refusal.Refusal.{Refusal}
use Rattle.pg_run.specs.pg_call.declared.refusal.Refusal.TheVariants as refusal
use Rattle.pg_run.specs.pg_call.declared.reply.Reply.{Reply}
use Rattle.pg_run.specs.pg_call.declared.reply.Reply.TheVariants as reply
use Rattle.pg_run.specs.pg_calls.Bodies.{change, change_file, when_fit}
use Rattle.pg_run.specs.pg_calls.Calls.{do_call}
use Rattle.pg_run.specs.pg_calls.Demoting.{demoted_at}
use Rattle.pg_run.specs.pg_calls.Dropping.{clean_gold, dropped_at, leaving}
use Rattle.pg_run.specs.pg_calls.Forgetting.{lost_at}
use Rattle.pg_run.specs.pg_calls.GivingUp.{removal_at}
use Rattle.pg_run.specs.pg_calls.Looks.{freshness}
use Rattle.pg_run.specs.pg_calls.Naming.{begun, next_id, place_in, with_id, with_thing}
use Rattle.pg_run.specs.pg_checks.declared.checks.NewName.{NewName}
use Rattle.pg_run.specs.pg_checks.Answer.{Answer, answered, replied, told}
use Rattle.pg_run.specs.pg_checks.Checks.{dir_at, empty_dir_at, file_at, in_time, move_of, new_name, target_at}
use Rattle.pg_run.specs.pg_lookup.declared.paths.LookupError.{LookupError}
use Rattle.pg_run.specs.pg_lookup.declared.paths.LookupError.TheVariants as stop
use Rattle.law_golds.proofs.law_contents.Pieces.{flag_keeps, patches_keep, place_keeps}
use Rattle.law_leaving.proofs.Lists.{IsLast, along, split_last}
use Rattle.pg_run.specs.pg_event.declared.event.Event.{Event}
use Rattle.law_full.proofs.Effects.{effect_kept}
use Rattle.pg_run.specs.pg_msg.declared.work.Work.{Work}
use Rattle.pg_run.specs.pg_msg.Work.{new_work}
use Rattle.pg_run.specs.pg_names.declared.attributes.Attributes.{Attributes}
use Rattle.pg_run.specs.pg_names.Names.{InodeValue, blank_own, is_full as names_full, is_full_of, known, own_of}
use Rattle.pg_run.proofs.pg_names.Holding.{begun_same}
use Rattle.law_golds.specs.law_order.Laws.{AllIsNamed}
use Rattle.law_golds.specs.law_order.Named.{IsMade}
use Rattle.law_golds.proofs.law_order.Files.{effect_files}
use Rattle.law_quiet.specs.Given.{ServersAreWhole}
use Rattle.pg_run.proofs.pg_calls.Walked.{full_held}
use Rattle.pg_run.proofs.QuietAnswers.{at_or_below}
use Rattle.pg_run.specs.pg_register.declared.flag.Flag.{Flag}
use Rattle.pg_run.specs.pg_pieces.Making.{own_next}
use Rattle.pg_run.specs.pg_patch.Ranges.{RangesValue, cut_to, written}
use Rattle.pg_run.specs.pg_server.declared.input.Input.{Input}
use Rattle.pg_run.specs.pg_server.declared.input.Input.TheVariants as input
use Rattle.pg_run.specs.pg_server.Local.{effect, first_effect, reply_to}
use Rattle.pg_run.specs.pg_store.declared.store.Store.{Store}
use Rattle.pg_run.specs.pg_store.Beginning.{patches_of, put_new}
use Rattle.pg_run.specs.pg_store.Births.{draw_birth, with_birth}
use Rattle.pg_run.specs.pg_store.Store.{is_full, is_held, is_before_clock_end, take_place}
use Rattle.pg_run.specs.Run.{World, next, run}
use Rattle.law_repair.specs.Kept.{IsCreated, MadeThingsAreCreated, is_held_by}
use Rattle.law_repair.proofs.FlagHad.{same_number}
use Rattle.law_repair.proofs.Stays.{full_rules}
use Rattle.law_repair.proofs.Steps.{IsActed, one_step}

-- ---- a reply that tells of a thing that was made

refused_not : (why : Refusal) (file : FileId) → reply.Refused why ≡ reply.Made file → ⊥
refused_not why file h = cc

fresh_not : (o : Option Stamp) (file : FileId) → freshness o ≡ reply.Made file → ⊥
fresh_not None file h = cc
fresh_not (Some stamp) file h = cc

id_is : (id file : FileId) → reply.Made id ≡ reply.Made file → id ≡ file
id_is id file h = cc

module _ (a : Store) (file : FileId) (moment : ℕ) where
  abbrev W : Work
  W = new_work moment 0

  -- the thing has the next id, and a full replica then
  pub record MakesNow (b : Answer) : Type 0 where
    pub kind : Kind
    pub is : file ≡ next_id a kind
    pub full : is_full b.store file ≡ true

  abbrev May : Answer → Type 0
  May b = b.reply ≡ reply.Made file → MakesNow b

  answers : {A : Type 0} (check : Result A LookupError) (next : A → Answer) → ((x : A) → check ≡ Ok x → May (next x)) → May (answered a W check next)
  answers (Err (stop.Refused why)) next each h = absurd (refused_not why file h)
  answers (Err (stop.NotYet found)) next each h = absurd (refused_not (refusal.NotYet found.file) file h)
  answers (Ok x) next each h = each x refl h

  looks : {A : Type 0} (check : Result A LookupError) (tell : A → Reply) → ((x : A) → tell x ≡ reply.Made file → ⊥) → May (replied a W check tell)
  looks check tell never = answers check (λ x. told a W (tell x)) (λ x at h. absurd (never x h))

  changes : (text : List ℕ) (ranges : RangesValue) → May (change a text ranges W)
  changes text ranges =
      answers (file_at a text) (change_file a ranges W)
      (λ f at. answers (when_fit a ranges f) _ (λ fit so h. absurd (let z = h in cc)))

  leaves : (f : FileId) (o : Option Flag) → May (leaving a f W o)
  leaves f None h = absurd (let z = h in cc)
  leaves f (Some flag) h = absurd (let z = h in cc)

  thing_full : (kind : Kind) (policy : Policy) (new : NewName) → is_full (with_thing (with_id a) W (next_id a kind) policy new).store (next_id a kind) ≡ true
  thing_full kind policy new =
      let id = next_id a kind in
      let first = with_birth (with_id a) in
      let fresh = put_new first id (draw_birth (with_id a)) policy (blank_own id) true in
      let b = begun (with_id a) id policy in
      let place = place_in (with_id a) W.now new in
      let d = take_place b id place in
      let put : is_full fresh id ≡ true = ap is_full_of (begun_same a.names id (blank_own id) true) in
      let all : is_full b id ≡ true = (patches_keep id fresh (patches_of id first.intents)).full id put in
      (flag_keeps d id (own_next d id true)).full id ((place_keeps b id place).full id all)

  makes : (kind : Kind) (policy : Policy) (new : NewName) (b : Answer) → is_full b.store (next_id a kind) ≡ is_full (with_thing (with_id a) W (next_id a kind) policy new).store (next_id a kind)
      → b.reply ≡ reply.Made (next_id a kind) → May b
  makes kind policy new b same tells h =
      let one : next_id a kind ≡ file = id_is (next_id a kind) file (sym tells ∙ h) in
      record { kind = kind; is = sym one; full = ap (is_full b.store) (sym one) ∙ same ∙ thing_full kind policy new }

  called : (c : Call) → May (do_call a c W)
  called (call.Mkdir text) = answers (new_name a (next_id a Dir) text) _ (λ new at. makes Dir Last new _ refl refl)
  called (call.Create text policy) = answers (new_name a (next_id a File) text) _ (λ new at. makes File policy new _ refl refl)
  called (call.Write text offset bytes) = changes text (written offset bytes)
  called (call.Cut text length) = changes text (cut_to length)
  called (call.Read text offset count) = looks (file_at a text) _ (λ x h. cc)
  called (call.Fresh text) = looks (file_at a text) _ (λ x h. fresh_not (first_of a.announced x) file h)
  called (call.Ls text from) = looks (dir_at a text) _ (λ x h. cc)
  called (call.Stat target) = looks (target_at a target) _ (λ x h. cc)
  called (call.Rename from to) = answers (move_of a from to) _ (λ x at h. absurd (let z = h in cc))
  called (call.Unlink text) = answers (file_at a text) _ (λ x at h. absurd (let z = h in cc))
  called (call.Rmdir text) = answers (empty_dir_at a text) _ (λ x at h. absurd (let z = h in cc))
  called (call.Forget id) = answers (lost_at a id) _ (λ x at h. absurd (let z = h in cc))
  called (call.Demote target) = answers (demoted_at a target) _ (λ x at h. absurd (let z = h in cc))
  called (call.Drop target) = answers (dropped_at a target) _ (λ f at. leaves f (clean_gold a f))
  called (call.Giveup view server) = answers (removal_at a view server) _ (λ x at h. absurd (let z = h in cc))
  called call.Status = looks (in_time a (tt {0})) _ (λ x h. cc)
  called call.Stop = looks (in_time a (tt {0})) _ (λ x h. cc)

-- in any event
pub record Makes (a : Store) (asked : Input) (file : FileId) : Type 0 where
  pub kind : Kind
  pub is : file ≡ next_id a kind
  pub full : is_full (first_effect a asked).store file ≡ true

tick_not : (file : FileId) (t : Bool) → cond t reply.Done (reply.Refused refusal.ClockEnd) ≡ reply.Made file → ⊥
tick_not file true h = cc
tick_not file false h = cc

makes_by : (a : Store) (file : FileId) (asked : Input) → reply_to a asked ≡ Some (reply.Made file) → Makes a asked file
makes_by a file (input.Call moment c) h =
    let k = called a file moment c (same_Some (do_call a c (new_work moment 0)).reply (reply.Made file) h) in
    record { kind = k.kind; is = k.is; full = k.full }
makes_by a file (input.Tick moment word) h = absurd (tick_not file (is_before_clock_end a) (same_Some _ (reply.Made file) h))
makes_by a file (input.Arrival packet) h = absurd (none-some (reply.Made file) h)
makes_by a file input.Restart h = absurd (none-some (reply.Made file) h)

-- ---- runs

some_holds : (w : World) (file : FileId) (m t : ℕ) → 1 ≤ t → t ≤ m → is_held (w.stores t) file ≡ true → is_held_by w file m ≡ true
some_holds w file zero t least most h = absurd (omega arith)
some_holds w file (suc k) t least most h = elim (at_or_below k t most) [
  | inl last ↦ or_left (is_held (w.stores (suc k)) file) (is_held_by w file k) (ap (λ (i : ℕ). is_held (w.stores i) file) (sym last) ∙ h)
  | inr less ↦ or_right (is_held (w.stores (suc k)) file) (is_held_by w file k) (some_holds w file k t least less h)
]

all_hold_none : (w : World) (file : FileId) (m : ℕ) → ((t : ℕ) → 1 ≤ t → t ≤ m → is_held (w.stores t) file ≡ false) → is_held_by w file m ≡ false
all_hold_none w file zero none = refl
all_hold_none w file (suc k) none =
    or_from (is_held (w.stores (suc k)) file) (is_held_by w file k) (none (suc k) (omega arith) (omega arith))
    (all_hold_none w file k (λ t least most. none t least (omega arith)))

-- ids are given out along a run
files_more : (n : ℕ) (events : List Event) (e : Event) (j : ℕ) → ((run n events).stores j).files ≤ ((run n (events ++ e ∷ [])).stores j).files
files_more n events e j = elim (one_step n events e) [
  | inl i ↦ (let same = ap (λ (a : Store). a.files) (i.stores j) in omega arith)
  | inr x ↦ elim (same_number j x.s) [
    | inl same ↦ (
        let P : ℕ → Type 0 = λ k. ((run n events).stores k).files ≤ ((run n (events ++ e ∷ [])).stores k).files in
        let up : ((run n events).stores x.s).files ≤ (effect ((run n events).stores x.s) x.asked).store.files = effect_files ((run n events).stores x.s) x.asked in
        subst P (sym same) (subst (λ (a : Store). ((run n events).stores x.s).files ≤ a.files) (sym x.here) up))
    | inr apart ↦ (let same = ap (λ (a : Store). a.files) (x.others j apart) in omega arith)
  ]
]

files_on : (n : ℕ) (before rest : List Event) (j : ℕ) → ((run n before).stores j).files ≤ ((run n (before ++ rest)).stores j).files
files_on n before rest j =
    along (λ es. ((run n before).stores j).files ≤ ((run n es).stores j).files)
    (λ es e k. at_most _ _ _ k (files_more n es e j)) before rest (itself ((run n before).stores j).files)
  where
    itself : (m : ℕ) → m ≤ m
    itself m = omega arith

    at_most : (x y z : ℕ) → x ≤ y → y ≤ z → x ≤ z
    at_most x y z p q = omega arith

held_own : (o : Option InodeValue) → is_some o ≡ true → (own : Attributes) × (own_of o ≡ Some own)
held_own None h = absurd (false≢true h)
held_own (Some x) h = (x.own, refl)

module _ (n : ℕ) (named : AllIsNamed n) (whole : ServersAreWhole n) (events : List Event) (e : Event) (file : FileId)
    (x : IsActed n events e) (m : Makes ((run n events).stores x.s) x.asked file) where
  abbrev A : Store
  A = (run n events).stores x.s

  no_zero : (a b : ℕ) → a ≡ b + 1 → a ≡ 0 → ⊥
  no_zero a b p q = absurd (omega arith)

  too_many : (a b c : ℕ) → a ≡ b + 1 → a ≤ c → c ≤ b → ⊥
  too_many a b c p q r = absurd (omega arith)

  -- nothing has the id before
  made_not : (before rest : List Event) → events ≡ before ++ rest → IsMade n (λ j. ((run n before).stores j).files) file → ⊥
  made_not before rest split (inl first) = no_zero file.number A.files (ap (λ (f : FileId). f.number) m.is) (ap (λ (f : FileId). f.number) first)
  made_not before rest split (inr born) =
      let server : file.server ≡ x.s = ap (λ (f : FileId). f.server) m.is ∙ (whole events x.s x.acts.least x.acts.most).server in
      let given : file.number ≤ ((run n before).stores x.s).files = subst (λ (j : ℕ). file.number ≤ ((run n before).stores j).files) server born.given in
      let up : ((run n before).stores x.s).files ≤ A.files =
      subst (λ (es : List Event). ((run n before).stores x.s).files ≤ ((run n es).stores x.s).files) (sym split) (files_on n before rest x.s) in
      too_many file.number A.files ((run n before).stores x.s).files (ap (λ (f : FileId). f.number) m.is) given up

  held_not : (before rest : List Event) → events ≡ before ++ rest → (t : ℕ) → 1 ≤ t → t ≤ n → is_held ((run n before).stores t) file ≡ true → ⊥
  held_not before rest split t least most held =
      let own = held_own (known ((run n before).stores t).names file) held in
      made_not before rest split (((named before).names t least most).own file own.0 own.1).thing

  none_before : (before rest : List Event) → events ≡ before ++ rest → is_held_by (run n before) file n ≡ false
  none_before before rest split =
      all_hold_none (run n before) file n
      (λ t least most. false_from_ne_true (is_held ((run n before).stores t) file) (held_not before rest split t least most))

  created_acted : IsCreated n file (events ++ e ∷ [])
  created_acted = record {
    held = (
        let full : is_full (effect A x.asked).store file ≡ true =
        effect_kept (λ s. names_full s file ≡ true) (full_rules A x.asked file) A x.asked m.full in
        some_holds (run n (events ++ e ∷ [])) file n x.s x.acts.least x.acts.most
        (ap (λ (b : Store). is_held b file) x.here ∙ full_held (effect A x.asked).store.names file full));
    new = λ before next behind split. by before next behind (split_last events e before next behind split);
  }
    where
      by : (before : List Event) (next : Event) (behind : List Event)
          → IsLast events e before next behind ⊎ ((rest : List Event) × (events ≡ before ++ next ∷ rest))
          → is_held_by (run n before) file n ≡ false
      by before next behind (inl l) = none_before before [] (sym l.before ∙ sym (append-nil before))
      by before next behind (inr r) = none_before before (next ∷ r.0) r.1

-- CREATED WHERE MADE
pub made_things_are_created : (n : ℕ) → AllIsNamed n → ServersAreWhole n → MadeThingsAreCreated n
made_things_are_created n named whole events e file tells = elim (one_step n events e) [
  | inl i ↦ absurd (none-some (reply.Made file) (sym i.reply ∙ tells))
  | inr x ↦ created_acted n named whole events e file x (makes_by ((run n events).stores x.s) file x.asked (sym x.reply ∙ tells))
]
