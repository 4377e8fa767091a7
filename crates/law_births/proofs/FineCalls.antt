-- What is said of births and flags is said behind each call.
use Rattle.std.proofs.Common.{ℕ, ◌≡◌, Bool, true, false, not, List, [], ◌∷◌, Option, None, Some, All, refl, sym, subst, ◌∙◌}
use Rattle.std.specs.Map.{keys_of}
use Rattle.std.proofs.lemmas.Bool.{and_parts}
use Rattle.std.proofs.lemmas.List.Elements.{All-nil}
use Rattle.pg_run.specs.pg_base.declared.id.FileId.{FileId}
use Rattle.pg_run.specs.pg_base.declared.policy.Policy.{Policy}
use Rattle.pg_run.specs.pg_base.declared.policy.Policy.TheVariants.{Last}
use Rattle.pg_run.specs.pg_patch.Ranges.{RangesValue}
use Rattle.pg_run.specs.pg_call.declared.call.Call.{Call}
use Rattle.pg_run.specs.pg_edges.declared.edge.Edge.{Edge}
use Rattle.pg_run.specs.pg_intent.declared.key.IntentKey.TheVariants as intent_key
use Rattle.pg_run.specs.pg_msg.declared.message.Message.TheVariants as message
use Rattle.pg_run.specs.pg_msg.declared.update.Update.TheVariants as update
use Rattle.pg_run.specs.pg_msg.declared.work.Work.{Work}
use Rattle.pg_run.specs.pg_msg.Work.{with_made}
use Rattle.pg_run.specs.pg_names.declared.attributes.Attributes.{Attributes}
use Rattle.pg_run.specs.pg_names.Names.{blank_own, fill as fill_names, own_at}
use Rattle.pg_run.specs.pg_register.declared.flag.Flag.{Flag}
use Rattle.pg_run.specs.pg_register.declared.place.Place.{Place}
use Rattle.pg_run.specs.pg_store.declared.store.Store.{Store}
use Rattle.pg_run.specs.pg_store.declared.wishes.Wish.{Wish}
use Rattle.pg_run.specs.pg_store.Beginning.{begin}
use Rattle.pg_run.specs.pg_store.Births.{draw_birth, with_birth, with_wish}
use Rattle.pg_run.specs.pg_store.Seen.{removed_of}
use Rattle.pg_run.specs.pg_store.Store.{is_full, is_held, replica_at, with_names}
use Rattle.pg_run.specs.pg_store.Together.{AreTogether, HoldsAsBefore, birth_at}
use Rattle.pg_run.specs.pg_store.Views.{enter}
use Rattle.pg_run.proofs.pg_store.Entering.{enter_together}
use Rattle.pg_run.proofs.pg_store.Pairs.{begin_together, together_as_before}
use Rattle.pg_run.specs.pg_pieces.Accepting.{ends_to}
use Rattle.pg_run.specs.pg_pieces.Done.{Done, idle}
use Rattle.pg_run.specs.pg_pieces.Making.{make_flag, own_next}
use Rattle.pg_run.specs.pg_pieces.Taking.{take_entry_noted}
use Rattle.pg_run.specs.pg_graph.Walks.{edges_of}
use Rattle.pg_run.specs.pg_intentions.Seeks.{matches}
use Rattle.pg_run.specs.pg_intentions.Inviting.{first_loose, invite_along, invite_each, invite_of, invites, loose_edge}
use Rattle.pg_run.specs.pg_checks.Asking.{fresh_wish, holder, standing}
use Rattle.pg_run.specs.pg_calls.Calls.{do_call}
use Rattle.pg_run.specs.pg_calls.Dropping.{leave_of}
use Rattle.pg_run.specs.pg_calls.Forgetting.{bare_entry, dead_at, last_place, unfilled, unwished}
use Rattle.pg_run.specs.pg_calls.GivingUp.{doubt_all, enter_view}
use Rattle.pg_run.specs.pg_calls.Making.{drawn, make_place, make_version}
use Rattle.pg_run.specs.pg_calls.Naming.{next_id, with_id}
use Rattle.pg_run.specs.pg_server.Local.{done_of}
use Rattle.pg_run.proofs.pg_calls.Walked.{full_held}
use Rattle.pg_run.proofs.Still.{same_mail}
use Rattle.pg_run.proofs.theory_flood_pieces.Choices.{decided}
use Rattle.law_order.proofs.law_frame.Called.{call_keeps}
use Rattle.law_order.proofs.law_frame.KeepsCalls.{KeepsCalls, lost_own}
use Rattle.law_births.proofs.EndsSay.{SaysEnds, ends_begin, ends_stay}
use Rattle.law_births.proofs.EnterSays.{ends_enter, find_has, say_enter}
use Rattle.law_births.proofs.Here.{birth_is, birth_of_held}
use Rattle.law_births.proofs.Mails.{OfBirths, Owed}
use Rattle.law_births.proofs.Parting.{said_begun}
use Rattle.law_births.proofs.Pieces.{entry_stays, fill_stays, flag_stays, place_stays, write_stays}
use Rattle.law_births.proofs.Raising.{fine_flag}
use Rattle.law_births.proofs.Saying.{IsSaid, own_named, said_entry, said_last, said_on, said_place, said_post}
use Rattle.law_births.proofs.StoreSays.{say_begin, say_ended, say_fill, say_write}
use Rattle.law_births.proofs.Walking.{edges_named}

module _ (P : FileId → ℕ → ℕ → Type 0) (G : FileId → ℕ → Type 0) (s from : ℕ) where
  abbrev Q : FileId → Flag → Type 0
  Q f flag = OfBirths P f flag

  abbrev Fine : Done → Type 0
  Fine d = IsSaid P (OfBirths P) G s from d

  -- what a server holds has births that were given out
  abbrev Givens : Store → Type 0
  Givens b = (f : FileId) (n : ℕ) → birth_at b f ≡ Some n → P f s n

  -- what is known of the births that a call gives out: of the replica that it begins, and of the
  -- wish that it leaves
  pub record Allows (a b : Store) : Type 0 where
    pub born : (f : FileId) (n : ℕ) → birth_at b f ≡ Some n → P f s n
    pub fresh : (f : FileId) (t : ℕ) → b ≡ with_wish (with_birth a) f (fresh_wish a t) → standing a f ≡ None
        → is_full a f ≡ false → P f s (draw_birth a)

  -- ---- pieces

  place_fine : (d : Done) (file : FileId) (place : Place) → Fine d → Fine (make_place file place d)
  place_fine d file place k =
      let v = with_made d.work (update.Place file place) in
      said_place P Q G s from d.store file place v (said_on P Q G s from d (idle d.store v) k k.store k.edges (record { sent = refl; tail = refl; from = refl }))

  flag_fine : (d : Done) (file : FileId) (raised : Bool) → AreTogether d.store → Givens d.store → Fine d
      → Fine (make_flag d.store file (own_next d.store file raised) d.work)
  flag_fine d file raised both born k =
      fine_flag P G s from d.store file raised d.work k (λ held.
      let n = birth_of_held d.store both file held in
      subst (P file s) (sym (birth_is d.store file n.0 n.1)) (born file n.0 n.1))

  write_fine : (d : Done) (file : FileId) (ranges : RangesValue) → Fine d → Fine (make_version file (drawn d.store d.work.now) ranges d)
  write_fine d file ranges k =
      let stamp = drawn d.store d.work.now in
      said_on P Q G s from d (make_version file stamp ranges d) k (say_write Q (Owed P G s) s d.store file stamp ranges k.store)
      (ends_stay P (write_stays d.store file stamp ranges) k.edges) (record { sent = refl; tail = refl; from = refl })

  fill_fine : (d : Done) (file : FileId) → Fine d → Fine (idle (with_names d.store (fill_names d.store.names file)) d.work)
  fill_fine d file k =
      said_on P Q G s from d (idle (with_names d.store (fill_names d.store.names file)) d.work) k (say_fill Q (Owed P G s) s d.store file k.store)
      (ends_stay P (fill_stays d.store file) k.edges) (same_mail d.work)

  begun_fine : (b : Store) (w : Work) → Fine (idle b w) → (id : FileId) (policy : Policy) (own : Attributes) → All (Q id) own.flags
      → Fine (idle (begin (with_birth b) id (draw_birth b) policy own true) w)
  begun_fine b w k id policy own all =
      let e = with_birth b in
      let birth = draw_birth b in
      said_on P Q G s from (idle b w) (idle (begin e id birth policy own true) w) k
      (say_begin Q (Owed P G s) s e id birth policy own true all (record { names = k.store.names; intents = k.store.intents }))
      (ends_begin P e id birth policy own true k.edges) (same_mail w)

  -- what begins anew has no flag
  no_flags : (id : FileId) (o : Option Place) → All (Q id) (lost_own id o).flags
  no_flags id None = All-nil (Q id)
  no_flags id (Some place) = All-nil (Q id)

  module _ (a : Store) (w : Work) (k : Fine (idle a w)) (both : AreTogether a) where
    -- ---- a server is removed

    module _ (server : ℕ) (born : Givens (enter a server)) where
      abbrev b : Store
      b = enter a server

      edges_b : SaysEnds P b
      edges_b = ends_enter P a server both k.edges

      both_b : AreTogether b
      both_b = enter_together a server both

      loose_in : (file : FileId) (o : Option Attributes) (e : Edge) → first_loose (removed_of b) o (edges_of b file) ≡ Some e → P file e.peer e.birth
      loose_in file None e is = absurd (let z : ◌≡◌ {A = Option Edge} None (Some e) = is in cc)
      loose_in file (Some own) e is =
          find_has (λ (x : Edge). P file x.peer x.birth) (λ x. not (matches (removed_of b) own.flags x)) (edges_of b file) e
          (edges_named P Q G s from b file (replica_at b file) refl edges_b) is

      along_fine : (file : FileId) (o : Option Edge) (v : Work) → is_held b file ≡ true → ((e : Edge) → o ≡ Some e → P file e.peer e.birth)
          → Fine (idle b v) → Fine (idle b (invite_along b file o v))
      along_fine file None v held named h = h
      along_fine file (Some e) v held named h =
          said_last P Q G s from b e.peer (message.Invite (ends_to b file e.birth)) v
          (own_named P Q G s from b file born (birth_of_held b both_b file held), named e refl) tt h

      invite_fine : (file : FileId) (v : Work) → Fine (idle b v) → Fine (idle b (invite_of b file v))
      invite_fine file v h =
          decided (λ (x : Work). Fine (idle b x)) (invites b file) (invite_along b file (loose_edge b file) v) v
          (λ t. along_fine file (loose_edge b file) v (full_held b.names file (and_parts (is_full b file) _ t).0)
          (λ e is. loose_in file (own_at b.names file) e is) h)
          (λ f. h)

      invites_fine : (files : List FileId) (v : Work) → Fine (idle b v) → Fine (idle b (invite_each b files v))
      invites_fine [] v h = h
      invites_fine (file ∷ files) v h = invites_fine files (invite_of b file v) (invite_fine file v h)

      entered_fine : Fine (enter_view a server w)
      entered_fine =
          invites_fine (keys_of b.names.held) (doubt_all b w)
          (said_on P Q G s from (idle a w) (idle b (doubt_all b w)) k (say_enter Q (Owed P G s) s server a k.store) edges_b
          (record { sent = refl; tail = refl; from = refl }))

  -- ---- calls

  module _ (a : Store) (w : Work) (k : Fine (idle a w)) (both : AreTogether a) (stood : (f : FileId) (wish : Wish) → standing a f ≡ Some wish → P f s wish.birth) where
    -- it is said, once the births that are held then were given out
    abbrev IsFine : Done → Type 0
    IsFine d = AreTogether d.store × (Givens d.store → Fine d)

    abbrev IsLeft : Done → Type 0
    IsLeft d = Allows a d.store → Fine d

    on : (d e : Done) → HoldsAsBefore d.store e.store → (AreTogether d.store → Givens d.store → Fine d → Fine e) → IsFine d → IsFine e
    on d e same goes h = (
      together_as_before d.store e.store same h.0,
      λ born. (
          let earlier = λ (f : FileId) (n : ℕ) (there : birth_at d.store f ≡ Some n). born f n (same.births f ∙ there) in
          goes h.0 earlier (h.1 earlier)),
    )

    begun : (b : Store) → Fine (idle b w) → AreTogether b → (id : FileId) (policy : Policy) (own : Attributes) → All (Q id) own.flags
        → IsFine (idle (begin (with_birth b) id (draw_birth b) policy own true) w)
    begun b h pairs id policy own all =
        (begin_together (with_birth b) id (draw_birth b) policy own true pairs, λ born. begun_fine b w h id policy own all)

    keeps_fine : (c : Call) → KeepsCalls a w c IsFine IsLeft
    keeps_fine c = record {
      wishes = λ found is h allows. (
          let f = found.file in
          let t = holder a found in
          said_post P Q G s from (with_wish (with_birth a) f (fresh_wish a t)) t (message.Fetch f (draw_birth a)) w (allows.fresh f t refl is.none is.missing) tt
          (said_on P Q G s from (idle a w) (idle (with_wish (with_birth a) f (fresh_wish a t)) w) k (record { names = k.store.names; intents = k.store.intents })
          k.edges (same_mail w)));
      asks = λ file wish is some h allows. said_post P Q G s from a wish.target (message.Fetch file wish.birth) w (stood file wish is) tt k;
      makes_new = λ kind policy path new is h. (
          let b = with_id a in
          let id = next_id a kind in
          begun b (said_on P Q G s from (idle a w) (idle b w) k (record { names = k.store.names; intents = k.store.intents }) k.edges (same_mail w))
          both id policy (blank_own id) (All-nil (Q id)));
      makes_place = λ d file place is h. on d (make_place file place d) (place_stays d.store file place).before (λ pairs born so. place_fine d file place so) h;
      makes_flag = λ d file raised is h. (
          let flag = own_next d.store file raised in
          on d (make_flag d.store file flag d.work) (flag_stays d.store file flag).before (flag_fine d file raised) h);
      makes_version = λ d file ranges is h. (
          let stamp = drawn d.store d.work.now in
          on d (make_version file stamp ranges d) (write_stays d.store file stamp ranges).before (λ pairs born so. write_fine d file ranges so) h);
      begins_leave = λ file flag is h. (both, λ born. said_begun P Q G s from (idle a w) (leave_of file flag) tt k);
      fills = λ d id is h. (
          let b = with_names d.store (fill_names d.store.names id) in
          on d (idle b d.work) (fill_stays d.store id).before (λ pairs born so. fill_fine d id so) h);
      strikes = λ id dir is h. (
        both,
        λ born. (
            let v = with_made w (update.Place id (dead_at a w.now id dir)) in
            said_on P Q G s from (idle a w) (idle (unwished a id) v) k (record { names = k.store.names; intents = k.store.intents }) k.edges
            (record { sent = refl; tail = refl; from = refl })),
      );
      marks = λ d id dir to is h. (
          let e = bare_entry id (dead_at a w.now id dir) in
          on d (take_entry_noted d.store to e d.work) (entry_stays d.store to e).before
          (λ pairs born so. said_entry P Q G s from d.store to e d.work (All-nil (Q id)) so) h);
      begins_lost = λ id own is away h. (
          let b = unfilled a id in
          begun b (said_on P Q G s from (idle a w) (idle b w) k (say_ended Q (Owed P G s) s a (intent_key.Fill id) k.store) k.edges (same_mail w)) both id Last own
          (subst (λ (o : Attributes). All (Q id) o.flags) (sym is.is) (no_flags id (last_place a.names id))));
      enters = λ view server is found h allows. entered_fine a w k both server allows.born;
      leaves = λ d h allows. h.1 allows.born;
    }

    -- ANY CALL
    pub fine_call : (c : Call) → Allows a (do_call a c w).store → Fine (done_of (do_call a c w))
    fine_call c = call_keeps a w IsFine IsLeft c (keeps_fine c) (both, λ born. k)
