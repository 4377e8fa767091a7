-- Leave is given: a replica goes, or stays; and where it goes, what is known.
use Rattle.std.proofs.Common.{ℕ, ◌≡◌, ◌==◌, ◌&&◌, Bool, true, false, cond, Option, None, Some, is_some, List, [], ◌∷◌, All, refl, sym, ap, ◌∙◌}
use Rattle.std.specs.List.{find}
use Rattle.std.specs.Option.{option_map, option_or}
use Rattle.std.proofs.lemmas.Bool.{and_parts, eqb-true, false≢true}
use Rattle.std.proofs.lemmas.List.Elements.{All-head, All-tail}
use Rattle.std.proofs.lemmas.Option.{none-some, same_Some}
use Rattle.pg_base.specs.declared.id.FileId.{FileId}
use Rattle.pg_base.specs.declared.stamp.Stamp.{Stamp}
use Rattle.pg_base.proofs.Orders.{is_same_file-true}
use Rattle.pg_pieces.specs.pg_call.declared.refusal.Refusal.{Refusal}
use Rattle.pg_pieces.specs.pg_call.declared.refusal.Refusal.TheVariants as refusal
use Rattle.pg_edges.specs.declared.edge.Edge.{Edge}
use Rattle.pg_pieces.specs.pg_intent.declared.intent.Intent.{Intent}
use Rattle.pg_pieces.specs.pg_intent.declared.intent.Intent.TheVariants as intent
use Rattle.pg_pieces.specs.pg_intent.declared.key.IntentKey.{IntentKey}
use Rattle.pg_pieces.specs.pg_intent.declared.key.IntentKey.TheVariants as intent_key
use Rattle.pg_pieces.specs.pg_intent.Intent.{is_about}
use Rattle.pg_pieces.specs.pg_intent.Intents.{ended, has_key, intent_at}
use Rattle.pg_pieces.specs.pg_msg.declared.message.Ends.{Ends}
use Rattle.pg_pieces.specs.pg_msg.declared.work.Work.{Work}
use Rattle.pg_pieces.specs.pg_names.Same.{is_same_stamp}
use Rattle.pg_pieces.specs.pg_store.declared.store.Store.{Store}
use Rattle.pg_pieces.specs.pg_store.Store.{replica_of}
use Rattle.pg_pieces.specs.declared.accepting.EdgeUse.TheVariants as manner
use Rattle.pg_pieces.specs.Accepting.{is_accepted}
use Rattle.pg_pieces.specs.Done.{Done, idle}
use Rattle.pg_pieces.specs.Golds.{is_gold}
use Rattle.pg_pieces.specs.Intending.{begin_intent}
use Rattle.pg_pieces.specs.Parting.{by_edge, by_intent, first_child, has_child, if_gold, is_unclean, stays_for, unsettled_by}
use Rattle.pg_graph.specs.Leaving.{begin_byes, bye_to, goes, goes_or_stays, is_leave_to, leave_ok, may_leave, place_stamp, without_leave}

-- ---- what is known where the answer is to what was asked

-- the message is accepted, the Leave stood, to who answers, and the place is the one that was told
pub record IsAnswered (a : Store) (ends : Ends) (stamp : Stamp) (w : Work) : Type 0 where
  pub accepted : is_accepted a w.from manner.Answers ends ≡ true
  pub stood : intent_at a.intents (intent_key.Leave ends.file) ≡ Some (intent.Leave ends.file w.from ends.sender)
  pub same : is_same_stamp (place_stamp a ends.file) stamp ≡ true

-- and where the replica goes
pub record MayGo (a : Store) (ends : Ends) (stamp : Stamp) (w : Work) : Type 0 where
  pub answered : IsAnswered a ends stamp w
  pub plain : is_gold a ends.file ≡ false
  pub childless : first_child a.names ends.file ≡ None
  pub quiet : find (is_about ends.file) (ended a.intents (intent_key.Leave ends.file)) ≡ None
  pub clean : find is_unclean (replica_of a ends.file).edges ≡ None

-- ---- of the tests

-- what is found passes
pub found_passes : {A : Type 0} (test : A → Bool) (x : A) (xs : List A) → find test xs ≡ Some x → test x ≡ true
found_passes test x [] h = absurd (none-some x h)
found_passes test x (y ∷ ys) h = at (test y) refl (found_passes test x ys) h
  where
    at : (t : Bool) → test y ≡ t → (find test ys ≡ Some x → test x ≡ true) → cond t (Some y) (find test ys) ≡ Some x → test x ≡ true
    at true passes rest same = ap test (sym (same_Some y x same)) ∙ passes
    at false passes rest later = rest later

-- what is found with a key has it
pub found_keyed : (k : IntentKey) (i : Intent) (is : List Intent) → intent_at is k ≡ Some i → has_key k i ≡ true
found_keyed k i is h = found_passes (has_key k) i is h

leave_is : (file f : FileId) (from sender peer birth : ℕ) → f ≡ file → peer ≡ from → birth ≡ sender
    → Some (intent.Leave f peer birth) ≡ Some (intent.Leave file from sender)
leave_is file f from sender peer birth a b c = cc

module _ (file : FileId) (is : List Intent) (from sender : ℕ) where
  leave_stood : (o : Option Intent) → intent_at is (intent_key.Leave file) ≡ o → is_leave_to o from sender ≡ true → o ≡ Some (intent.Leave file from sender)
  leave_stood (Some (intent.Leave f peer birth)) at h =
      let both = and_parts (peer == from) (birth == sender) h in
      leave_is file f from sender peer birth
      (sym (is_same_file-true file f (found_keyed (intent_key.Leave file) (intent.Leave f peer birth) is at)))
      (eqb-true peer from both.0) (eqb-true birth sender both.1)
  leave_stood (Some (intent.Bye f birth peer peer_birth)) at h = absurd (false≢true h)
  leave_stood (Some (intent.Seek f target)) at h = absurd (false≢true h)
  leave_stood (Some (intent.Fill f birth target)) at h = absurd (false≢true h)
  leave_stood (Some (intent.Patch dir entry target)) at h = absurd (false≢true h)
  leave_stood (Some (intent.Confirm dir child target)) at h = absurd (false≢true h)
  leave_stood None at h = absurd (false≢true h)

pub answered_is : (a : Store) (ends : Ends) (stamp : Stamp) (w : Work) → may_leave a ends stamp w ≡ true → IsAnswered a ends stamp w
answered_is a ends stamp w h =
    let here = is_accepted a w.from manner.Answers ends in
    let stood = is_leave_to (intent_at a.intents (intent_key.Leave ends.file)) w.from ends.sender in
    let same = is_same_stamp (place_stamp a ends.file) stamp in
    let one = and_parts here (stood && same) h in
    let two = and_parts stood same one.1 in
    record {
      accepted = one.0;
      stood = leave_stood ends.file a.intents w.from ends.sender (intent_at a.intents (intent_key.Leave ends.file)) refl two.0;
      same = two.1;
    }

-- nothing is the first of two, or of none
neither : (o p : Option Refusal) → is_some (option_or o p) ≡ false → (o ≡ None) × (p ≡ None)
neither None None h = (refl, refl)
neither None (Some r) h = absurd (false≢true (sym h))
neither (Some r) p h = absurd (false≢true (sym h))

none_mapped : {A : Type 0} (f : A → Refusal) (o : Option A) → option_map f o ≡ None → o ≡ None
none_mapped f None h = refl
none_mapped {A} f (Some x) h = absurd (let z : ◌≡◌ {A = Option Refusal} (Some (f x)) None = h in cc)

not_gold : (t : Bool) → if_gold t ≡ None → t ≡ false
not_gold false h = refl
not_gold true h = absurd (false≢true (sym (ap (λ (o : Option Refusal). is_some o) h)))

none_is : (o : Option Refusal) → o ≡ None → is_some o ≡ false
none_is o h = ap (λ (p : Option Refusal). is_some p) h

module _ (b : Store) (file : FileId) (stays : is_some (stays_for b file) ≡ false) where
  first_two : (if_gold (is_gold b file) ≡ None) × (option_or (has_child b file) (unsettled_by b file) ≡ None)
  first_two = neither (if_gold (is_gold b file)) (option_or (has_child b file) (unsettled_by b file)) stays

  last_two : (has_child b file ≡ None) × (unsettled_by b file ≡ None)
  last_two = neither (has_child b file) (unsettled_by b file) (none_is (option_or (has_child b file) (unsettled_by b file)) first_two.1)

  unsettled_two : (find (is_about file) b.intents ≡ None) × (find is_unclean (replica_of b file).edges ≡ None)
  unsettled_two =
      let i = option_map (by_intent file) (find (is_about file) b.intents) in
      let e = option_map (by_edge file) (find is_unclean (replica_of b file).edges) in
      let two = neither i e (none_is (option_or i e) last_two.1) in (
        none_mapped (by_intent file) (find (is_about file) b.intents) two.0,
        none_mapped (by_edge file) (find is_unclean (replica_of b file).edges) two.1,
      )

  pub stays_not : (is_gold b file ≡ false) × ((first_child b.names file ≡ None)
      × ((find (is_about file) b.intents ≡ None) × (find is_unclean (replica_of b file).edges ≡ None)))
  stays_not = (
    not_gold (is_gold b file) first_two.0,
    (none_mapped (λ child. refusal.HasChild child) (first_child b.names file) last_two.0, unsettled_two),
  )

-- ---- the parts

-- of a choice each side knows the test
by_test : {A : Type 0} (P : A → Type 0) (t : Bool) (x y : A) → (t ≡ true → P x) → (t ≡ false → P y) → P (cond t x y)
by_test P true x y h k = h refl
by_test P false x y h k = k refl

-- LEAVE IS GIVEN: nothing is done, or the Leave ends and the replica stays, or it goes
pub leave_ok_by : (P : Done → Type 0) (a : Store) (ends : Ends) (stamp : Stamp) (w : Work)
    → P (idle a w)
    → (IsAnswered a ends stamp w → P (idle (without_leave a ends.file) w))
    → (MayGo a ends stamp w → P (goes (without_leave a ends.file) ends.file w))
    → P (leave_ok a ends stamp w)
leave_ok_by P a ends stamp w nothing over gone =
    let b = without_leave a ends.file in
    by_test P (may_leave a ends stamp w) (goes_or_stays b ends.file w) (idle a w)
    (λ yes.
    let answered = answered_is a ends stamp w yes in
    by_test P (is_some (stays_for b ends.file)) (idle b w) (goes b ends.file w)
    (λ stays. over answered)
    (λ none.
    let parts = stays_not b ends.file none in
    gone (record { answered = answered; plain = parts.0; childless = parts.1.0; quiet = parts.1.1.0; clean = parts.1.1.1 })))
    (λ no. nothing)

-- THE BYES: what each keeps that is of an edge, they keep
pub byes_by : (P : Done → Type 0) (Q : Edge → Type 0) (file : FileId) (birth : ℕ)
    → ((d : Done) (e : Edge) → Q e → P d → P (begin_intent d.store (bye_to file birth e) d.work))
    → (es : List Edge) → All Q es → (d : Done) → P d → P (begin_byes file birth es d)
byes_by P Q file birth step [] all d k = k
byes_by P Q file birth step (e ∷ es) all d k =
    byes_by P Q file birth step es (All-tail Q e es all) (begin_intent d.store (bye_to file birth e) d.work)
    (step d e (All-head Q e es all) k)
