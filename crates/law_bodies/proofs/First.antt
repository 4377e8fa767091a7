-- What is sent where a server hears of a version first: behind a link of the sender, or none.
use Rattle.std.proofs.Common.{[], ℕ, ◌≡◌, ◌==◌, ◌++◌, ◌⊎◌, Bool, true, false, not, cond, List, ◌∷◌, Option, None, Some, inl, inr, refl, sym, ap, subst, ◌∙◌, All}
use Rattle.std.specs.List.{AllZip, filter, flat_map}
use Rattle.std.proofs.lemmas.Bool.{false≢true}
use Rattle.std.proofs.lemmas.List.{append-nil, append_assoc}
use Rattle.pg_run.specs.pg_base.declared.head.Head.{Head}
use Rattle.pg_run.specs.pg_base.declared.id.FileId.{FileId}
use Rattle.pg_run.specs.pg_base.Version.{actor_of}
use Rattle.pg_run.specs.pg_announced.declared.announced.Announced.{Announced}
use Rattle.pg_run.specs.pg_announced.Announced.{NotesValue, is_awaited, key_at, note_at}
use Rattle.pg_run.specs.pg_content.Content.{ContentValue, is_covered}
use Rattle.pg_run.specs.pg_edges.declared.edge.Edge.{Edge}
use Rattle.pg_run.specs.pg_house.Facts.{AreOrdered}
use Rattle.pg_run.specs.pg_intent.declared.intent.Intent.{Intent}
use Rattle.pg_run.specs.pg_intent.declared.intent.Intent.TheVariants as intent
use Rattle.pg_run.specs.pg_intent.declared.key.IntentKey.{IntentKey}
use Rattle.pg_run.specs.pg_intent.declared.key.IntentKey.TheVariants as intent_key
use Rattle.pg_run.specs.pg_intent.Intents.{has_key, intent_at}
use Rattle.pg_run.specs.pg_msg.declared.message.Ends.{Ends}
use Rattle.pg_run.specs.pg_msg.declared.message.Message.TheVariants as message
use Rattle.pg_run.specs.pg_msg.declared.message.Sent.{Sent}
use Rattle.pg_run.specs.pg_msg.declared.work.Linked.{Linked}
use Rattle.pg_run.specs.pg_msg.declared.work.Work.{Work}
use Rattle.pg_run.specs.pg_msg.Work.{new_work}
use Rattle.pg_run.specs.pg_names.Names.{NamesValue}
use Rattle.pg_run.specs.pg_replica.Replicas.{ByFile}
use Rattle.pg_run.specs.pg_store.declared.store.Store.{Store}
use Rattle.pg_run.specs.pg_store.Births.{birth_of}
use Rattle.pg_run.specs.pg_store.Links.{is_new_link}
use Rattle.pg_run.specs.pg_store.Store.{content_of, replica_of}
use Rattle.pg_run.specs.pg_pieces.Accepting.{ends_to}
use Rattle.pg_run.specs.pg_pieces.Done.{Done, idle}
use Rattle.pg_run.specs.pg_pieces.Posting.{sent_to}
use Rattle.pg_run.specs.pg_cells.Sending.{cells_where, is_chosen}
use Rattle.pg_run.specs.pg_intentions.Beginning.{begin_end}
use Rattle.pg_run.specs.pg_intentions.Intending.{pieces}
use Rattle.pg_run.specs.pg_intentions.Requests.{asks, asks_by}
use Rattle.pg_run.specs.pg_intentions.Seeks.{has_seek}
use Rattle.pg_run.specs.pg_server.Local.{Effect, closed, finished, intended, settled}
use Rattle.pg_run.specs.pg_server.pg_transfer.Asking.{acknowledged, heard_by, noted, put_off}
use Rattle.pg_run.specs.pg_server.pg_transfer.Harbinger.{first_heard, heard, heard_beside}
use Rattle.pg_run.specs.Bodies.{IsHeardBy, IsOfLink, IsSeekBegun, SendsFirst, edges_beside, want_first}
use Rattle.pg_run.specs.Golds.{FullSeeGold}
use Rattle.pg_run.specs.Laws.{IsInOrder}
use Rattle.pg_run.proofs.pg_base.Orders.{is_same_file-true}
use Rattle.pg_run.proofs.pg_graph.LeaveOk.{found_keyed}
use Rattle.pg_run.proofs.pg_intentions.Sought.{seeks_moved}
use Rattle.pg_run.proofs.pg_intentions.Steady.{IsSteady, begin_end_stays}
use Rattle.pg_run.proofs.theory_flood_pieces.Choices.{chosen}
use Rattle.pg_run.proofs.Ticks.{IsTidy, nothing_more, settled_is}
use Rattle.law_bodies.proofs.Begun.{IsBegun, seeks, which_begin}
use Rattle.law_bodies.proofs.Linked.{IsBeside}

-- ---- what others hear

module _ (b : Store) (file : FileId) (from : ℕ) (head : Head) where
  abbrev Told : List Edge → List Sent
  Told es = flat_map (heard_by b file from head) es

  abbrev Others : List Edge → List Edge
  Others es = filter (λ e. not (e.peer == from)) es

  abbrev Hear : List Edge → List Sent → Type 0
  Hear es ms = AllZip (IsHeardBy b file head) es ms

  hears_or_not : (e : Edge) (es : List Edge) (t : Bool) → Hear (Others es) (Told es)
      → Hear (cond (not t) (e ∷ Others es) (Others es))
      (cond t [] (sent_to b e.peer (message.Harbinger (ends_to b file e.birth) 0 head) ∷ []) ++ Told es)
  hears_or_not e es true rest = rest
  hears_or_not e es false rest = (refl, rest)

  all_hear : (es : List Edge) → Hear (Others es) (Told es)
  all_hear [] = tt
  all_hear (e ∷ es) = hears_or_not e es (e.peer == from) (all_hear es)

-- ---- what a Seek that began asks

module _ (a b : Store) (file : FileId) where
  -- the message of a Seek that began, or none
  abbrev pub MaySeek : List Sent → Type 0
  MaySeek ms = (ms ≡ []) ⊎ ((m : Sent) × (ms ≡ m ∷ []) × IsSeekBegun a b file m)

  module _ (new : has_seek a file ≡ false) where
    seek_to : (target : ℕ)
        → intent_at b.intents (intent_key.Seek file) ≡ Some (intent.Seek file target)
        → MaySeek (asks b (intent.Seek file target) ++ [])
    seek_to target at =
        let m = sent_to b target (message.Seek file (birth_of b file)) in
        chosen (λ (ms : List Sent). MaySeek (ms ++ [])) (target == 0) [] (m ∷ []) (inl refl)
        (inr (
          m,
          refl,
          record {
            target = target;
            new = new;
            begun = at;
            whole = record { asked = message.Seek file (birth_of b file); by = refl; whole = refl };
          },
        ))

    seek_by : (o : Option Intent) → intent_at b.intents (intent_key.Seek file) ≡ o
        → MaySeek (pieces (asks b) o ++ [])
    seek_by None at = inl refl
    seek_by (Some i) at = of_kind i at (found_keyed (intent_key.Seek file) i b.intents at)
      where
        of_kind : (j : Intent) → intent_at b.intents (intent_key.Seek file) ≡ Some j
            → has_key (intent_key.Seek file) j ≡ true → MaySeek (asks b j ++ [])
        of_kind (intent.Seek f target) at h =
            let P : FileId → Type 0 = λ g. intent_at b.intents (intent_key.Seek file)
            ≡ Some (intent.Seek g target) → MaySeek (asks b (intent.Seek g target) ++ []) in
            subst P (is_same_file-true file f h) (seek_to target) at
        of_kind (intent.Bye f birth peer peer_birth) at h = absurd (false≢true h)
        of_kind (intent.Fill f birth target) at h = absurd (false≢true h)
        of_kind (intent.Patch dir entry target) at h = absurd (false≢true h)
        of_kind (intent.Confirm dir child target) at h = absurd (false≢true h)
        of_kind (intent.Leave f peer peer_birth) at h = absurd (false≢true h)

    seek_sent : MaySeek (flat_map (asks_by b) (intent_key.Seek file ∷ []))
    seek_sent = seek_by (intent_at b.intents (intent_key.Seek file)) refl

-- ---- the event, behind the acceptance

-- a server that held a holds this then, and these edges were made
module _ (n s : ℕ) (a : Store) (k : IsTidy n s a) (b : Store) (ls : List Linked) (from : ℕ)
    (ends : Ends) (tag : ℕ) (head : Head) (beside : IsBeside a b ends.file) where
  abbrev Met : Work
  Met = record (new_work 0 from) { linked = ls }

  abbrev Heard : Done
  Heard = first_heard b ends tag head Met

  -- ---- it is the first that is heard

  heard_is : is_covered (content_of a ends.file).heads (actor_of head) head.number ≡ false
      → note_at a.announced (key_at ends.file head.stamp) ≡ None
      → is_awaited a.announced ends.file from head ≡ false
      → heard b ends tag head Met ≡ Heard
  heard_is uncovered unannounced unawaited =
      let late = idle b (put_off b ends head.stamp Met) in
      let behind = heard_beside (noted b ends.file head.stamp) b ends tag head Met in
      let told = idle b (acknowledged b ends head.stamp tag Met) in
      let unless = cond (is_awaited b.announced ends.file from head) late behind in
      ap (λ (c : ContentValue). cond (is_covered c.heads (actor_of head) head.number) told unless)
      beside.content
      ∙ ap (λ t. cond t told unless) uncovered
      ∙ ap (λ (ns : NotesValue). cond (is_awaited ns ends.file from head) late behind) beside.announced
      ∙ ap (λ t. cond t late behind) unawaited
      ∙ ap (λ (o : Option Announced). heard_beside o b ends tag head Met)
      (ap (λ (ns : NotesValue). note_at ns (key_at ends.file head.stamp)) beside.announced ∙ unannounced)

  -- ---- the house rules change nothing

  settled_heard : settled Heard ≡ Heard
  settled_heard =
      settled_is Heard.store (subst IsInOrder (sym beside.names) k.order)
      (subst AreOrdered (sym beside.names) k.ordered)
      (subst (λ (names : NamesValue). FullSeeGold (record a { names = names })) (sym beside.names) k.golds)
      Heard.work

  abbrev End : Done
  End = begin_end Heard.store Heard.work

  abbrev pub Leaving : Effect
  Leaving = finished None End

  pub closed_first : is_covered (content_of a ends.file).heads (actor_of head) head.number ≡ false
      → note_at a.announced (key_at ends.file head.stamp) ≡ None
      → is_awaited a.announced ends.file from head ≡ false
      → closed None (heard b ends tag head Met) ≡ Leaving
  closed_first uncovered unannounced unawaited =
      ap (closed None) (heard_is uncovered unannounced unawaited)
      ∙ ap (λ (d : Done). finished None (intended d)) settled_heard

  -- ---- what is sent

  same : IsSteady Heard.store Heard.work End
  same = begin_end_stays Heard.store Heard.work

  abbrev Hearing : List Sent
  Hearing = flat_map (heard_by b ends.file from head) (replica_of b ends.file).edges

  abbrev pub Keys : List Sent
  Keys = cells_where End.store (is_chosen [] ls)

  abbrev Seeks : List Sent
  Seeks = flat_map (asks_by End.store) End.work.begun

  sent_is : Leaving.out.sent ≡ (want_first b from ends head ∷ Hearing) ++ (Keys ++ Seeks)
  sent_is =
      let first = want_first b from ends head ∷ Hearing in
      (λ i. ((same.sent i ++ cells_where End.store (is_chosen (same.touched i) (same.linked i))) ++ Seeks) ++ same.tail i)
      ∙ append-nil ((first ++ Keys) ++ Seeks) ∙ append_assoc first Keys Seeks

  same_want : want_first End.store from ends head ≡ want_first b from ends head
  same_want =
      ap (λ (names : NamesValue). want_first (record End.store { names = names }) from ends head) same.names
      ∙ ap (λ (rs : ByFile). want_first (record b { replicas = rs }) from ends head) same.replicas

  tells : AllZip (IsHeardBy End.store ends.file head) (edges_beside End.store ends.file from) Hearing
  tells =
      let P : NamesValue → ByFile → Type 0 = λ names rs. let c = record b { names = names; replicas = rs } in
      AllZip (IsHeardBy c ends.file head) (edges_beside c ends.file from) Hearing in
      subst (λ (names : NamesValue). P names End.store.replicas) (sym same.names)
      (subst (λ (rs : ByFile). P b.names rs) (sym same.replicas)
      (all_hear b ends.file from head (replica_of b ends.file).edges))

  -- ---- what begins

  begins : IsBegun a Heard.store ends.file k.still beside.names beside.intents beside.others End.work.begun
  begins =
      which_begin a Heard.store ends.file k.still beside.names beside.intents beside.others Heard.work refl refl refl

  seeking : MaySeek a End.store ends.file Seeks
  seeking = elim begins [
    | inl none ↦ inl (ap (flat_map (asks_by End.store)) none)
    | inr one ↦ subst (λ (ks : List IntentKey). MaySeek a End.store ends.file (flat_map (asks_by End.store) ks))
        (sym one.0) (seek_sent a End.store ends.file one.1)
  ]

  no_seek : b.replicas ≡ a.replicas → Seeks ≡ []
  no_seek replicas = elim begins [
    | inl none ↦ ap (flat_map (asks_by End.store)) none
    | inr one ↦ absurd (false≢true (sym one.1
        ∙ seeks a Heard.store ends.file k.still beside.names beside.intents beside.others ends.file
        ∙ sym (seeks_moved ends.file a Heard.store beside.names replicas) ∙ one.2))
  ]

  -- WHAT IS SENT
  pub sends_first : All (IsOfLink End.store from ends.file) Keys
      → (is_new_link a ends.file from ends.sender ≡ false → (Keys ≡ []) × (b.replicas ≡ a.replicas))
      → SendsFirst a Leaving.store from ends head Leaving.out.sent
  sends_first of_link unlinked = record {
    told = Hearing;
    keys = Keys;
    seeks = Seeks;
    sends = sent_is ∙ ap (λ (m : Sent). (m ∷ Hearing) ++ (Keys ++ Seeks)) (sym same_want);
    tells = tells;
    of_link = of_link;
    seeking = seeking;
    linked = λ old. let none = unlinked old in (none.0, no_seek none.1);
  }

  -- where no edge was made nothing of keys is
  pub no_keys : ls ≡ [] → Keys ≡ []
  no_keys none =
      let xs = cells_where End.store (is_chosen [] []) in
      ap (λ (l : List Linked). cells_where End.store (is_chosen [] l)) none
      ∙ sym (append-nil (xs ++ []) ∙ append-nil xs) ∙ nothing_more End.store [] []
