-- The first part of a step in which a replica is to go, gives leave, or goes, and its peers hear of
-- it.
use Rattle.std.proofs.Common.{ℕ, ◌≡◌, true, false, cond, List, None, Some, is_some, refl, sym, ap, ◌∙◌, inl, inr, ◌⊎◌}
use Rattle.std.proofs.lemmas.Option.{none-some, same_Some}
use Rattle.pg_run.specs.pg_base.declared.id.FileId.{FileId}
use Rattle.pg_run.specs.pg_base.declared.stamp.Stamp.{Stamp}
use Rattle.pg_run.specs.pg_base.Id.{is_same_file}
use Rattle.pg_run.proofs.pg_base.Orders.{is_same_file-true}
use Rattle.pg_run.proofs.pg_content.Stamps.{same_stamp}
use Rattle.pg_run.specs.pg_edges.declared.edge.Edge.{Edge}
use Rattle.pg_run.proofs.pg_house.Truths.{bool_cases}
use Rattle.pg_run.specs.pg_intent.declared.intent.Intent.{Intent}
use Rattle.pg_run.specs.pg_intent.declared.key.IntentKey.{IntentKey}
use Rattle.pg_run.specs.pg_intent.declared.key.IntentKey.TheVariants as intent_key
use Rattle.pg_run.specs.pg_intent.Intent.{key_of}
use Rattle.pg_run.specs.pg_intent.Intents.{begun, begun_on, ended, intent_at}
use Rattle.pg_run.specs.pg_intent.Key.{is_same_key}
use Rattle.pg_run.proofs.pg_intent.Found.{begun_found, ended_found, stands_is}
use Rattle.theory_listing.specs.World.Saying.{LeaveOk}
use Rattle.theory_listing.proofs.Handlers.{gone_first}
use Rattle.pg_run.specs.pg_msg.declared.message.Ends.{Ends}
use Rattle.pg_run.specs.pg_msg.declared.work.Work.{Work}
use Rattle.pg_run.specs.pg_names.Names.{entry_in, own_at, own_of, own_or_blank, or_blank}
use Rattle.pg_run.proofs.pg_names.Gone.{gone_cell_other, gone_own_other, gone_same}
use Rattle.pg_run.specs.pg_register.declared.place.Place.{Place}
use Rattle.theory_listing_house.specs.Listing.{cell_place, own_place}
use Rattle.theory_listing_house.proofs.Seen.{own_is}
use Rattle.pg_run.specs.pg_store.declared.store.Store.{Store}
use Rattle.pg_run.specs.pg_store.Beginning.{let_go, with_intents}
use Rattle.pg_run.specs.pg_store.Births.{birth_of}
use Rattle.pg_run.specs.pg_store.Seen.{view_of}
use Rattle.pg_run.specs.pg_store.Store.{replica_of}
use Rattle.pg_run.specs.pg_pieces.declared.accepting.EdgeUse.TheVariants as manner
use Rattle.pg_run.specs.pg_pieces.Accepting.{accept, is_accepted}
use Rattle.pg_run.specs.pg_pieces.Done.{Done, idle}
use Rattle.pg_run.specs.pg_pieces.Intending.{begin_intent}
use Rattle.pg_run.proofs.theory_flood_pieces.Choices.{chosen}
use Rattle.pg_run.specs.Intending.{IntendsInOrder}
use Rattle.pg_run.proofs.Bags.{All-every}
use Rattle.pg_run.specs.pg_graph.Leaving.{begin_byes, bye_ok, bye_to, goes, leave, leave_given, leave_ok, without_leave}
use Rattle.pg_run.proofs.pg_graph.LeaveOk.{IsAnswered, byes_by, leave_ok_by}
use Rattle.law_listings.specs.Letters.{Letter, patch_place}
use Rattle.law_listings.proofs.Alike.{Alike, Alike-refl, Alike-trans, before_alike, behind_alike}
use Rattle.law_listings.proofs.Heard.{IsBehind, IsFirst, alike_is, idle_first, plainly}
use Rattle.law_listings.proofs.Placed.{IsNoted}
use Rattle.law_listings.proofs.PlacesAlone.{IsPart, of_places}
use Rattle.law_listings.proofs.Unseen.{accept_alike}
use Rattle.law_listings.proofs.Views.{held_holds}

-- ---- intentions that directories do not see

-- a key is of no Patch and no Confirm
pub record IsUnseen (k : IntentKey) : Type 0 where
  pub patch : (d c : FileId) → is_same_key (intent_key.Patch d c) k ≡ false
  pub confirm : (d c : FileId) → is_same_key (intent_key.Confirm d c) k ≡ false

pub ended_alike : (a : Store) (k : IntentKey) → IsUnseen k → Alike a (with_intents a (ended a.intents k))
ended_alike a k other = record {
  own = λ f. refl;
  cells = λ d c. refl;
  patches = λ d c. (let q = intent_key.Patch d c in
      ap patch_place (ended_found a.intents k q ∙ ap (λ t. cond t None (intent_at a.intents q)) (other.patch d c)));
  confirms = λ d c h. (let q = intent_key.Confirm d c in
      stands_is (ended a.intents k) q ∙ ap is_some (ended_found a.intents k q ∙ ap (λ t. cond t None (intent_at a.intents q)) (other.confirm d c))
      ∙ sym (stands_is a.intents q) ∙ h);
  removed = refl;
}

pub begun_alike : (a : Store) (i : Intent) (work : Work) → IsUnseen (key_of i) → Alike a (begin_intent a i work).store
begun_alike a i work other = record {
  own = λ f. refl;
  cells = λ d c. refl;
  patches = λ d c. (let q = intent_key.Patch d c in
      ap patch_place (begun_found a.intents i q ∙ ap (λ t. cond t (Some (begun_on (intent_at a.intents q) i)) (intent_at a.intents q)) (other.patch d c)));
  confirms = λ d c h. (let q = intent_key.Confirm d c in
      stands_is (begun a.intents i) q
      ∙ ap is_some (begun_found a.intents i q ∙ ap (λ t. cond t (Some (begun_on (intent_at a.intents q) i)) (intent_at a.intents q)) (other.confirm d c))
      ∙ sym (stands_is a.intents q) ∙ h);
  removed = refl;
}

byes_alike : (a : Store) (f : FileId) (birth : ℕ) (es : List Edge) (d : Done) → Alike a d.store → Alike a (begin_byes f birth es d).store
byes_alike a f birth es d k =
    byes_by (λ (e : Done). Alike a e.store) (λ e. Unit {0}) f birth
    (λ b e all h. Alike-trans h (begun_alike b.store (bye_to f birth e) b.work (record { patch = λ x c. refl; confirm = λ x c. refl })))
    es (All-every (λ (e : Edge). Unit {0}) es (λ e. tt)) d k

-- ---- what is found where a thing is held no longer

module _ (s : Store) (f : FileId) where
  abbrev Left : Store
  Left = let_go s f

  own_gone : of_places.own Left f ≡ None
  own_gone = ap (λ k. own_place (own_of k)) (gone_same s.names f)

  cell_gone : (c : FileId) → of_places.cell Left f c ≡ None
  cell_gone c = ap (λ k. cell_place (entry_in c k)) (gone_same s.names f)

  own_by : (g : FileId) → (is_same_file f g ≡ true) ⊎ (is_same_file f g ≡ false) → (g ≡ f) ⊎ (of_places.own Left g ≡ of_places.own s g)
  own_by g (inl same) = inl (sym (is_same_file-true f g same))
  own_by g (inr apart) = inr (ap own_place (gone_own_other s.names f g apart))

  pub others_left : (g : FileId) → (g ≡ f) ⊎ (of_places.own Left g ≡ of_places.own s g)
  others_left g = own_by g (bool_cases (is_same_file f g))

  cell_by : (d c : FileId) → (is_same_file f d ≡ true) ⊎ (is_same_file f d ≡ false)
      → ((d ≡ f) × (of_places.cell Left d c ≡ None)) ⊎ (of_places.cell Left d c ≡ of_places.cell s d c)
  cell_by d c (inl same) =
      let at : f ≡ d = is_same_file-true f d same in
      inl (sym at, ap (λ (x : FileId). of_places.cell Left x c) (sym at) ∙ cell_gone c)
  cell_by d c (inr apart) = inr (ap cell_place (gone_cell_other s.names f d c apart))

  -- THE THING GOES, by the LeaveOk with its place
  pub left_first : (heard : Letter) (birth : ℕ) (place : Place) → heard.view ≡ view_of s → heard.says ≡ LeaveOk f birth place → of_places.own s f ≡ Some place
      → IsPart s Left heard
  left_first heard birth place view says was = λ least. gone_first of_places least s Left heard f birth place (record {
    says = says;
    hears = inr view;
    view = refl;
    was = was;
    now = own_gone;
    is_past = tt;
    others = others_left;
    births = λ g held now. refl;
    past = λ g n h. h;
    cells = λ d c. cell_by d c (bool_cases (is_same_file f d));
    patches = λ d c. refl;
    confirms = λ d c q owes h. owes;
  })

-- ---- leave

module _ (a : Store) (behind : IsBehind a) (order : IntendsInOrder a) (heard : Letter) (view : heard.view ≡ view_of a) where
  abbrev First : Done → Type 0
  First d = IsFirst a heard d

  -- it is given, or not: who asks is linked
  pub leave_first : (ends : Ends) (stamp : Stamp) (work : Work) → First (leave a ends stamp work)
  leave_first ends stamp work =
      let met = accept a ends manner.Makes work in
      let k = accept_alike a ends manner.Makes work in
      chosen First (is_accepted a work.from manner.Makes ends) (leave_given ends stamp met) met
      (alike_is a behind heard view (leave_given ends stamp met) k) (alike_is a behind heard view met k)

  pub bye_ok_first : (f : FileId) (birth : ℕ) (work : Work) → First (bye_ok a f birth work)
  bye_ok_first f birth work =
      alike_is a behind heard view (bye_ok a f birth work)
      (ended_alike a (intent_key.Bye f birth work.from) (record { patch = λ d c. refl; confirm = λ d c. refl }))

  -- the Leave has ended
  module _ (ends : Ends) (stamp : Stamp) (work : Work) (place : Place) (said : heard.says ≡ LeaveOk ends.file ends.sender place)
      (one : (q : Place) → of_places.own a ends.file ≡ Some q → q.stamp ≡ stamp → q ≡ place) where
    abbrev F : FileId
    F = ends.file

    abbrev S : Store
    S = without_leave a F

    ended_leave : Alike a S
    ended_leave = ended_alike a (intent_key.Leave F) (record { patch = λ d c. refl; confirm = λ d c. refl })

    -- the place that was told is the present one
    told_own : IsAnswered a ends stamp work → of_places.own a F ≡ Some place
    told_own k =
        let held = held_holds a F (order.leaves F work.from ends.sender k.stood).0 in
        let o = own_is (own_at a.names F) held.0 held.1 in
        let is : (own_or_blank a.names F).place ≡ held.0 = ap (λ x. (or_blank F x).place) o.1 ∙ o.2 in
        let stamped : held.0.stamp ≡ stamp = ap (λ (p : Place). p.stamp) (sym is) ∙ same_stamp (own_or_blank a.names F).place.stamp stamp k.same in
        held.1 ∙ ap (λ (p : Place). Some p) (one held.0 held.1 stamped)

    module _ (k : IsAnswered a ends stamp work) where
      abbrev D : Done
      D = goes S F work

      byes : Alike (let_go S F) D.store
      byes = byes_alike (let_go S F) F (birth_of S F) (replica_of S F).edges (idle (let_go S F) work) (Alike-refl (let_go S F))

      gone_part : IsPart a D.store heard
      gone_part =
          behind_alike a S ended_leave heard D.store
          (before_alike (let_go S F) D.store byes heard S
          (left_first S F heard ends.sender place view said (ended_leave.own F ∙ told_own k)))

      -- all else stands as it did
      still_own : (c : FileId) (q r : Place) → of_places.own a c ≡ Some q → of_places.own D.store c ≡ Some r → q ≡ r
      still_own c q r was now = elim (others_left S F c) [
        | inl at ↦ absurd (none-some r (sym (own_gone S F) ∙ sym (ap (of_places.own (let_go S F)) at) ∙ sym (byes.own c) ∙ now))
        | inr same ↦ same_Some q r (sym was ∙ sym (ended_leave.own c) ∙ sym same ∙ sym (byes.own c) ∙ now)
      ]

      gone_noted : IsNoted a D
      gone_noted = record { noted = λ c q r was now other live. inl (still_own c q r was now) }

      gone_is : First D
      gone_is = plainly a heard D gone_part gone_noted

    pub leave_ok_first : First (leave_ok a ends stamp work)
    leave_ok_first =
        leave_ok_by First a ends stamp work (idle_first a behind heard view work)
        (λ answered. alike_is a behind heard view (idle S work) ended_leave) (λ may. gone_is may.answered)
