-- A call leaves a server sound, and what it asks for is said.
use Rattle.std.proofs.Common.{ℕ, ◌≡◌, ◌≤◌, ◌+◌, Bool, true, false, cond, List, Option, None, Some, is_some, Result, Ok, inl, inr, refl, sym, ap, subst, ◌∙◌, arith}
use Rattle.std.specs.Option.{option_or}
use Rattle.std.proofs.lemmas.Bool.{false≢true}
use Rattle.std.proofs.lemmas.List.Elements.{All-nil}
use Rattle.std.proofs.lemmas.Option.{none-some}
use Rattle.law_frame.specs.pg_run.pg_base.declared.id.FileId.{FileId}
use Rattle.law_frame.specs.pg_run.pg_base.declared.id.Kind.{Kind}
use Rattle.law_frame.specs.pg_run.pg_base.declared.id.Kind.TheVariants.{Dir, File}
use Rattle.law_frame.specs.pg_run.pg_base.declared.policy.Policy.{Policy}
use Rattle.law_frame.specs.pg_run.pg_base.declared.policy.Policy.TheVariants.{Last}
use Rattle.law_frame.specs.pg_run.pg_base.Id.{is_same_file}
use Rattle.law_frame.proofs.pg_run.pg_base.Orders.{is_same_file-true}
use Rattle.law_frame.specs.pg_run.pg_base.declared.stamp.Stamp.{Stamp}
use Rattle.law_frame.specs.pg_run.pg_patch.Ranges.{RangesValue}
use Rattle.law_frame.specs.pg_run.pg_intent.declared.intent.Intent.{Intent}
use Rattle.law_frame.specs.pg_run.pg_intent.declared.intent.Intent.TheVariants as intent
use Rattle.law_frame.specs.pg_run.pg_intent.declared.key.IntentKey.TheVariants as intent_key
use Rattle.law_frame.specs.pg_run.pg_intent.Intents.{has_key}
use Rattle.law_frame.specs.pg_run.pg_msg.declared.message.Message.TheVariants as message
use Rattle.law_frame.specs.pg_run.pg_msg.declared.update.Update.TheVariants as update
use Rattle.law_frame.specs.pg_run.pg_msg.declared.work.Work.{Work}
use Rattle.law_frame.specs.pg_run.pg_msg.Work.{with_made}
use Rattle.law_frame.specs.pg_run.pg_call.declared.call.Call.{Call}
use Rattle.law_frame.specs.pg_run.pg_call.declared.call.Call.TheVariants as call
use Rattle.law_frame.specs.pg_run.pg_call.declared.reply.Reply.TheVariants as reply
use Rattle.law_frame.specs.pg_run.pg_register.declared.flag.Flag.{Flag}
use Rattle.law_frame.specs.pg_run.pg_register.declared.place.Place.{Place}
use Rattle.law_frame.specs.pg_run.pg_register.Place.{root}
use Rattle.law_frame.proofs.pg_run.pg_register.ByServer.{IsByServer-nil}
use Rattle.law_frame.specs.pg_run.pg_names.declared.attributes.Attributes.{Attributes}
use Rattle.law_frame.specs.pg_run.pg_names.Names.{InodeValue, blank_own, is_dir, is_full_of, known, or_blank, own_of, own_or_blank}
use Rattle.law_frame.specs.pg_run.pg_house.Facts.{IsHeld}
use Rattle.law_frame.specs.pg_run.pg_lookup.declared.paths.LookupError.{LookupError}
use Rattle.law_frame.specs.pg_run.pg_store.declared.store.Store.{Store}
use Rattle.law_frame.specs.pg_run.pg_store.declared.wishes.Wish.{Wish}
use Rattle.law_frame.specs.pg_run.pg_store.Beginning.{begin}
use Rattle.law_frame.specs.pg_run.pg_store.Births.{draw_birth, fill_at, wish_at, with_birth, with_wish}
use Rattle.law_frame.specs.pg_run.pg_store.Store.{is_full, is_held, is_before_clock_end}
use Rattle.law_frame.specs.pg_run.pg_store.Together.{HoldsAsBefore, MayBegin}
use Rattle.law_frame.proofs.pg_run.pg_store.Aiming.{gone_as_before}
use Rattle.law_frame.proofs.pg_run.pg_store.Given.{births_as_before}
use Rattle.law_frame.proofs.pg_run.pg_store.Pairs.{birth_as_before}
use Rattle.law_frame.proofs.pg_run.pg_store.Wishing.{wish_births}
use Rattle.law_frame.specs.pg_run.pg_pieces.Done.{Done, idle}
use Rattle.law_frame.proofs.pg_run.pg_graph.LeaveOk.{found_keyed}
use Rattle.law_frame.specs.pg_run.pg_intentions.Needed.{IsToFill}
use Rattle.law_frame.proofs.pg_run.pg_intent.Found.{ended_found}
use Rattle.law_frame.proofs.pg_run.pg_intent.SameKey.{is_same_key-refl}
use Rattle.law_frame.proofs.pg_run.pg_intentions.Needs.{needed_comes, what_is_needed}
use Rattle.law_frame.specs.pg_run.pg_checks.declared.checks.NewName.{NewName}
use Rattle.law_frame.specs.pg_run.pg_checks.Answer.{answer, answered}
use Rattle.law_frame.specs.pg_run.pg_checks.Asking.{fresh_wish, holder, standing, wish_by}
use Rattle.law_frame.specs.pg_run.pg_checks.Checks.{new_name}
use Rattle.law_frame.specs.pg_run.pg_calls.Calls.{do_call}
use Rattle.law_frame.specs.pg_run.pg_calls.Dropping.{leave_of}
use Rattle.law_frame.specs.pg_run.pg_calls.Forgetting.{bare_entry, dead_at, is_wanted, root_place, unfilled, unwished}
use Rattle.law_frame.specs.pg_run.pg_calls.Making.{drawn, make_version, version_of, with_version}
use Rattle.law_frame.specs.pg_run.pg_calls.Naming.{begun, dead_place, next_id, place_in, with_first_version, with_id, with_thing}
use Rattle.law_frame.proofs.pg_run.pg_calls.InTime.{name_in_time}
use Rattle.law_frame.proofs.pg_run.pg_calls.Walked.{file_found, full_own}
use Rattle.law_frame.specs.pg_run.pg_server.Local.{done_of}
use Rattle.law_frame.specs.pg_run.theory_flood_pieces.Laws.{AreAlike}
use Rattle.law_frame.proofs.Called.{call_keeps}
use Rattle.law_frame.proofs.KeepsCalls.{Drops, IsLost, IsNew, KeepsCalls, MakesPlace, making}
use Rattle.law_order.specs.Saying.{IsClosed, IsIntended, IsSaidOwn, Saying}
use Rattle.law_order.proofs.BirthsStay.{fresh_given}
use Rattle.law_order.proofs.Ended.{IsAtRest}
use Rattle.law_order.proofs.Entering.{so_entered}
use Rattle.law_order.proofs.Files.{thing_files}
use Rattle.law_order.proofs.Found.{IsFree, dropped_found, empty_found, lost_found, move_found, name_found}
use Rattle.law_order.proofs.Losing.{anew_said, marked_said, wanted_thing}
use Rattle.law_order.proofs.Received.{so_filled}
use Rattle.law_order.proofs.Sounding.{Sound, sound_alike, sound_begun, sound_ended, sound_write}
use Rattle.law_order.proofs.Taking.{IsMember, SoFar, so_begins, so_entry, so_flagged, so_made, so_sent, so_with}

-- an id that nobody knows yet
pub record IsNewId (p : Saying) (a : Store) (id : FileId) : Type 0 where
  pub away : is_held a id ≡ false
  pub gap : fill_at a id ≡ None
  pub thing : p.IsThing id
  pub other : is_same_file id root ≡ false

-- where neither a Fill nor a wish stands
no_fill : (f : FileId) (o : Option Intent) (w : Option Wish) → ((i : Intent) → o ≡ Some i → has_key (intent_key.Fill f) i ≡ true) → option_or (wish_by o) w ≡ None → o ≡ None
no_fill f None w has none = refl
no_fill f (Some (intent.Bye file birth peer peer_birth)) w has none = absurd (false≢true (has (intent.Bye file birth peer peer_birth) refl))
no_fill f (Some (intent.Seek file target)) w has none = absurd (false≢true (has (intent.Seek file target) refl))
no_fill f (Some (intent.Fill file birth target)) w has none = absurd (none-some _ (sym none))
no_fill f (Some (intent.Patch dir entry target)) w has none = absurd (false≢true (has (intent.Patch dir entry target) refl))
no_fill f (Some (intent.Confirm dir child target)) w has none = absurd (false≢true (has (intent.Confirm dir child target) refl))
no_fill f (Some (intent.Leave file peer peer_birth)) w has none = absurd (false≢true (has (intent.Leave file peer peer_birth) refl))

pub unfilled_at : (a : Store) (f : FileId) → standing a f ≡ None → fill_at a f ≡ None
unfilled_at a f none = no_fill f (fill_at a f) (wish_at a f) (λ i at. found_keyed (intent_key.Fill f) i a.intents at) none

-- what is held and not full is filling
filling_by : (o : Option InodeValue) → is_some o ≡ true → is_full_of o ≡ false → (x : InodeValue) × (o ≡ Some x) × (x.full ≡ false)
filling_by None held full = absurd (false≢true held)
filling_by (Some x) held full = (x, refl, full)

-- a Fill stands of what is filling
abbrev pub IsFilled : Store → FileId → Type 0
IsFilled a f = (x : InodeValue) → known a.names f ≡ Some x → x.full ≡ false → is_some (fill_at a f) ≡ true

-- so what is not full, and of which no Fill stands, is not held
pub missing_away : (a : Store) (f : FileId) → IsFilled a f → is_full a f ≡ false → fill_at a f ≡ None → is_held a f ≡ false
missing_away a f fills missing gap = by (is_held a f) refl
  where
    by : (t : Bool) → is_held a f ≡ t → t ≡ false
    by false there = refl
    by true there =
        let x = filling_by (known a.names f) there missing in
        absurd (false≢true (sym (ap is_some gap) ∙ fills x.0 x.1 x.2))

-- the Fill of what begins anew has ended
pub gap_behind : (a : Store) (id : FileId) → fill_at (unfilled a id) id ≡ None
gap_behind a id =
    let q = intent_key.Fill id in
    ended_found a.intents q q ∙ ap (λ (t : Bool). cond t None (fill_at a id)) (is_same_key-refl q)

id_as_before : (a : Store) → HoldsAsBefore a (with_id a)
id_as_before a = record {
  held = λ q. refl;
  births = λ q. refl;
  given = (let h : a.births ≤ a.births = omega arith in h);
  wishes = λ q wish there. there;
  fills = λ q i there. there;
}

file_apart : (f : FileId) (t : Bool) → is_same_file f root ≡ t → is_dir f ≡ false → t ≡ false
file_apart f false e file = refl
file_apart f true e file = absurd (false≢true (sym file ∙ ap is_dir (is_same_file-true f root e)))

-- where a call gives an id out, nobody knows it yet
abbrev pub GivesNewIds : Saying → Store → Call → Work → Type 0
GivesNewIds p a x work = is_before_clock_end a ≡ true → (kind : Kind) → (do_call a x work).store.files ≡ a.files + 1 → IsNewId p a (next_id a kind)

-- ---- a call that makes a thing gives out an id

gives_one : (a : Store) (x : Call) (w : Work) (kind : Kind) (policy : Policy) (text : List ℕ) (new : NewName) → x ≡ making kind policy text
    → new_name a (next_id a kind) text ≡ Ok new → (do_call a x w).store.files ≡ a.files + 1
gives_one a x w Dir policy text new is found =
    let id = next_id a Dir in
    let next = λ (m : NewName). answer (with_thing (with_id a) w id Last m) (reply.Made id) in
    ap (λ (y : Call). (do_call a y w).store.files) is
    ∙ ap (λ (r : Result NewName LookupError). (answered a w r next).store.files) found ∙ thing_files (with_id a) w id Last new
gives_one a x w File policy text new is found =
    let id = next_id a File in
    let next = λ (m : NewName). answer (with_first_version id (with_thing (with_id a) w id policy m)) (reply.Made id) in
    ap (λ (y : Call). (do_call a y w).store.files) is
    ∙ ap (λ (r : Result NewName LookupError). (answered a w r next).store.files) found ∙ thing_files (with_id a) w id policy new

module _ (p : Saying) (c : IsClosed p) (n s : ℕ) (mine : IsMember p n s) (a : Store) (k : IsAtRest p n s a) (work : Work) where
  abbrev Far : Done → Type 0
  Far d = SoFar p c n s d

  -- ---- places

  thing_of : (f : FileId) → IsHeld a.names f → p.IsThing f
  thing_of f held = (k.sound.named.said.own f held.0 held.1).thing

  -- a place where a client wants it
  given_place : (b : Store) (f : FileId) (now : ℕ) (new : NewName) → is_same_file f root ≡ false → IsFree a new → p.IsPlace f (place_in b now new)
  given_place b f now new other free = c.given f (place_in b now new) other (thing_of new.dir free.held) free.dir free.name

  so_taken_away : (f : FileId) → IsHeld a.names f → is_same_file f root ≡ false → p.IsPlace f (dead_place a work.now f)
  so_taken_away f held other =
      let was = k.sound.named.said.own f held.0 held.1 in
      let here = subst (λ (o : Attributes). p.IsPlace f o.place) (sym (ap (or_blank f) held.1)) was.place in
      c.again f (own_or_blank a.names f).place (dead_place a work.now f) other here refl refl

  so_version : (d : Done) (f : FileId) (stamp : Stamp) (ranges : RangesValue) → Far d → Far (make_version f stamp ranges d)
  so_version d f stamp ranges h =
      so_with p c n s d _ (with_version d.work (version_of d.store f stamp ranges)) h (sound_write p n s d.store h.store f stamp ranges)
      (record { left = refl; sent = refl; tail = refl })

  -- ---- what is asked for

  so_wished : (f : FileId) → is_full a f ≡ false → standing a f ≡ None → (target : ℕ) → Far (idle a work)
      → Far (idle (with_wish (with_birth a) f (fresh_wish a target)) work)
  so_wished f missing none target first =
      let b = with_birth a in
      let given = births_as_before a b (birth_as_before a) k.sound.births in
      let e = with_wish b f (fresh_wish a target) in
      let gap = unfilled_at a f none in
      let away = missing_away a f (λ x is less. k.fills f ∙ needed_comes a.names f (inl (x, is, less))) missing gap in
      so_with p c n s (idle a work) e work first
      (sound_alike p n s a k.sound e (record { servers = refl; tags = refl; names = refl; replicas = refl })
      (wish_births b f (fresh_wish a target) given away gap (fresh_given a.births)) k.sound.keys k.sound.named.intents)
      (record { left = refl; sent = refl; tail = refl })

  -- ---- what begins

  so_begun : (b : Store) → Sound p n s b → (id : FileId) → is_held b id ≡ false → fill_at b id ≡ None → (policy : Policy) (own : Attributes)
      → IsSaidOwn p id own → Far (idle a work) → Far (idle (begin (with_birth b) id (draw_birth b) policy own true) work)
  so_begun b sound id away gap policy own here first =
      let e = with_birth b in
      let births = births_as_before b e (birth_as_before b) sound.births in
      let same : AreAlike b e = record { servers = refl; tags = refl; names = refl; replicas = refl } in
      let may : MayBegin e id (draw_birth b) = record {
        away = away;
        given = fresh_given b.births;
        fill = λ f m t there. absurd (none-some (intent.Fill f m t) (sym gap ∙ there));
      } in
      so_with p c n s (idle a work) (begin e id (draw_birth b) policy own true) work first
      (sound_begun p n s e (sound_alike p n s b sound e same births sound.keys sound.named.intents) id (draw_birth b) policy own true may here.order here)
      (record { left = refl; sent = refl; tail = refl })

  -- a new thing has an id that nobody knows yet
  fresh : (x : Call) → GivesNewIds p a x work → (kind : Kind) (policy : Policy) (text : List ℕ) (new : NewName) → new_name a (next_id a kind) text ≡ Ok new
      → x ≡ making kind policy text → IsNewId p a (next_id a kind)
  fresh x ids kind policy text new found is =
      ids (name_in_time a (next_id a kind) text new found) kind (gives_one a x work kind policy text new is found)

  so_new : (id : FileId) → IsNewId p a id → (policy : Policy) → Far (idle a work) → Far (idle (begun (with_id a) id policy) work)
  so_new id is policy first =
      let b = with_id a in
      let births = births_as_before a b (id_as_before a) k.sound.births in
      let same : AreAlike a b = record { servers = refl; tags = refl; names = refl; replicas = refl } in
      so_begun b (sound_alike p n s a k.sound b same births k.sound.keys k.sound.named.intents) id is.away is.gap policy (blank_own id)
      (record { thing = is.thing; place = c.blank id is.other is.thing; flags = All-nil p.IsFlag; order = IsByServer-nil }) first

  -- ---- the place that a call makes

  at_place : (f g : FileId) (place q : Place) → f ≡ g → place ≡ q → p.IsPlace g q → p.IsPlace f place
  at_place f g place q same is here = subst (λ (x : FileId). p.IsPlace x place) (sym same) (subst (p.IsPlace g) (sym is) here)

  new_place : (kind : Kind) (text : List ℕ) (file : FileId) (place : Place) → IsNewId p a (next_id a kind) → IsNew a work kind text file place → p.IsPlace file place
  new_place kind text file place is of =
      let id = next_id a kind in
      at_place file id place (place_in (with_id a) work.now of.0) of.2 of.3 (given_place (with_id a) id work.now of.0 is.other (name_found a id text of.0 of.1))

  made_place : (x : Call) → GivesNewIds p a x work → (b : Store) (file : FileId) (place : Place) → MakesPlace a work b x file place → p.IsPlace file place
  made_place (call.Mkdir path) ids b file place of =
      new_place Dir path file place (fresh (call.Mkdir path) ids Dir Last path of.0 of.1 refl) of
  made_place (call.Create path policy) ids b file place of =
      new_place File path file place (fresh (call.Create path policy) ids File policy path of.0 of.1 refl) of
  made_place (call.Rename from to) ids b file place of =
      let m = move_found a from to of.0 of.1 in
      at_place file of.0.thing place (place_in a work.now of.0.to) of.2 of.3 (given_place a of.0.thing work.now of.0.to m.other m.free)
  made_place (call.Unlink path) ids b file place of =
      let m = file_found a path file of.0 in
      subst (p.IsPlace file) (sym of.1) (so_taken_away file (full_own a.names file m.0) (file_apart file (is_same_file file root) refl m.1))
  made_place (call.Rmdir path) ids b file place of =
      let m = empty_found a path file of.0 in
      subst (p.IsPlace file) (sym of.1) (so_taken_away file m.0 m.1)
  made_place (call.Forget id) ids b file place of =
      subst (p.IsPlace file) (sym of.1) (c.below file (root_place b work.now file) (lost_found a id file of.0) refl refl)
  made_place x ids b file place of = absurd of

  -- ---- what is dropped, and what was lost

  leave_said : (x : Call) (file : FileId) (flag : Flag) → Drops a work x file → IsIntended p (leave_of file flag)
  leave_said (call.Drop target) file flag of =
      let g = dropped_found a target file of in (thing_of file (full_own a.names file g.full), c.child file g.other)
  leave_said x file flag of = absurd of

  lost_other : (x : Call) (id : FileId) → IsLost a work x id → is_same_file id root ≡ false
  lost_other (call.Forget f) id lost = lost_found a f id lost
  lost_other x id lost = absurd lost

  needed_thing : (id : FileId) → IsToFill a.names id → p.IsThing id
  needed_thing id (inl x) = (k.sound.named.said.own id x.0.own (ap own_of x.1)).thing
  needed_thing id (inr l) =
      let was = k.sound.named.said.own l.child l.x.own (ap own_of l.held) in
      subst p.IsThing l.parent (c.parent l.child l.x.own.place was.place).0

  lost_thing : (id : FileId) → is_wanted a id ≡ true → p.IsThing id
  lost_thing id wanted =
      wanted_thing p a k.sound.named.said id k.sound.named.intents
      (λ h. needed_thing id ((what_is_needed a.names id k.sound.named.tidy.keys).0 (sym (k.fills id) ∙ h))) wanted

  unwished_sound : (id : FileId) → Sound p n s (unwished a id)
  unwished_sound id =
      sound_alike p n s a k.sound (unwished a id) (record { servers = refl; tags = refl; names = refl; replicas = refl })
      (births_as_before a (unwished a id) (gone_as_before a id) k.sound.births) k.sound.keys k.sound.named.intents

  -- ---- each piece

  keeps_far : (x : Call) → GivesNewIds p a x work → KeepsCalls a work x Far Far
  keeps_far x ids = record {
    wishes = λ found is h. (
        let target = holder a found in
        let e = with_wish (with_birth a) found.file (fresh_wish a target) in
        so_sent p c n s (idle e work) target (message.Fetch found.file (draw_birth a)) (so_wished found.file is.missing is.none target h) tt);
    asks = λ file wish is some h. so_sent p c n s (idle a work) wish.target (message.Fetch file wish.birth) h tt;
    makes_new = λ kind policy text new is h. so_new (next_id a kind) (fresh x ids kind policy text new is.0 is.1) policy h;
    makes_place = λ d file place of h. so_made p c n s d file place (made_place x ids d.store file place of) h;
    makes_flag = λ d file raised of h. so_flagged p c n s d file raised mine h;
    makes_version = λ d file ranges of h. so_version d file (drawn d.store d.work.now) ranges h;
    begins_leave = λ file flag is h. so_begins p c n s (idle a work) (leave_of file flag) (λ q. refl) (leave_said x file flag is.1) h;
    fills = λ d id lost h. so_filled p c n s mine d id h;
    strikes = λ id dir is h.
        so_with p c n s (idle a work) (unwished a id) (with_made work (update.Place id (dead_at a work.now id dir))) h (unwished_sound id)
        (record { left = refl; sent = refl; tail = refl });
    marks = λ d id dir to is h.
        so_entry p c n s d to (bare_entry id (dead_at a work.now id dir))
        (marked_said p a k.sound.named.said id c (lost_other x id is.0.lost) k.sound.whole.names.dirs work.now dir to is.1) h;
    begins_lost = λ id own is away h.
        so_begun (unfilled a id) (sound_ended p n s a k.sound (intent_key.Fill id)) id away (gap_behind a id) Last own
        (anew_said p a k.sound.named.said id c (lost_other x id is.lost) own is.is (lost_thing id is.wanted)) h;
    enters = λ view server is found h. so_entered p c n s (idle a work) server h;
    leaves = λ d h. h;
  }

  -- A CALL
  pub so_called : Far (idle a work) → (x : Call) → GivesNewIds p a x work → Far (done_of (do_call a x work))
  so_called first x ids = call_keeps a work Far Far x (keeps_far x ids) first
