-- Pieces of an event that change no content and make no version.
use Rattle.std.proofs.Common.{ℕ, ◌≡◌, ◌&&◌, Bool, true, false, not, List, [], ◌∷◌, ◌++◌, map, refl, sym, ap, subst, ◌∙◌}
use Rattle.pg_run.specs.pg_base.declared.id.FileId.{FileId}
use Rattle.pg_run.specs.pg_base.declared.policy.Policy.{Policy}
use Rattle.pg_run.specs.pg_edges.declared.key.Key.{Key}
use Rattle.pg_run.specs.pg_edges.declared.key.Key.TheVariants as key
use Rattle.pg_run.specs.pg_entries.declared.entry.Entry.{Entry}
use Rattle.pg_run.specs.pg_house.Work.{is_root, note_left}
use Rattle.pg_run.specs.pg_intent.declared.intent.Intent.{Intent}
use Rattle.pg_run.specs.pg_intent.Intent.{key_of}
use Rattle.pg_run.specs.pg_intent.Intents.{begun, stands}
use Rattle.pg_run.specs.pg_msg.declared.message.Message.{Message}
use Rattle.pg_run.specs.pg_msg.declared.update.MadeVersion.{MadeVersion}
use Rattle.pg_run.specs.pg_msg.declared.update.Update.{Update}
use Rattle.pg_run.specs.pg_msg.declared.update.Update.TheVariants as update
use Rattle.pg_run.specs.pg_msg.declared.work.Work.{Work}
use Rattle.pg_run.specs.pg_msg.Work.{with_begun, with_left, with_linked, with_made, with_tail, with_unsure}
use Rattle.pg_run.specs.pg_names.Names.{own_or_blank}
use Rattle.pg_run.specs.pg_register.declared.flag.Flag.{Flag}
use Rattle.pg_run.specs.pg_register.declared.place.Place.{Place}
use Rattle.pg_run.specs.Journal.{Born, versions_in}
use Rattle.pg_run.specs.Took.{stamp_taken_by, stamps_taken, take_of}
use Rattle.pg_run.specs.pg_store.declared.store.Store.{Store}
use Rattle.pg_run.specs.pg_store.Beginning.{with_intents}
use Rattle.pg_run.specs.pg_store.Links.{is_new_link, link}
use Rattle.pg_run.specs.pg_store.Store.{entry_news, is_newer_flag, is_newer_place, take_entry, take_flag, take_place}
use Rattle.pg_run.proofs.pg_pieces.News.{news_made, news_sent}
use Rattle.pg_run.specs.pg_pieces.Accepting.{link_peer}
use Rattle.pg_run.specs.pg_pieces.Done.{Done, idle}
use Rattle.pg_run.specs.pg_pieces.Intending.{begin_intent, with_begun_if}
use Rattle.pg_run.specs.pg_pieces.Making.{lower_flag, make_flag, own_next, raise_flag}
use Rattle.pg_run.specs.pg_pieces.Posting.{post, sent_to}
use Rattle.pg_run.specs.pg_pieces.Taking.{is_any_news, is_place_news, take_entry_cell, take_entry_noted, take_flag_noted, take_flags_noted, take_place_noted, with_left_if, with_news}
use Rattle.pg_run.specs.pg_calls.Making.{make_place}
use Rattle.pg_run.proofs.theory_flood_pieces.Choices.{chosen}
use Rattle.law_contents.proofs.Asking.{last_carry, post_carry}
use Rattle.law_contents.proofs.Carrying.{Carries}
use Rattle.law_contents.proofs.Changes.{Keeps, Keeps-refl, Keeps-trans}
use Rattle.law_contents.proofs.Pieces.{entry_keeps, flag_keeps, intents_keep, link_keeps, place_keeps}
use Rattle.law_contents.proofs.Sending.{AllCarry}

-- ---- updates of names

abbrev pub IsName : Update → Type 0
IsName (update.Version made) = ⊥
IsName (update.Place file place) = Unit {0}
IsName (update.Flag file flag) = Unit {0}

pub name_versions : (us : List Update) (u : Update) → IsName u
    → versions_in (us ++ u ∷ []) ≡ versions_in us
name_versions [] (update.Version made) h = absurd h
name_versions [] (update.Place file place) h = refl
name_versions [] (update.Flag file flag) h = refl
name_versions (update.Version made ∷ us) u h =
    ap (λ (vs : List MadeVersion). made ∷ vs) (name_versions us u h)
name_versions (update.Place file place ∷ us) u h = name_versions us u h
name_versions (update.Flag file flag ∷ us) u h = name_versions us u h

pub name_stamps : (q : FileId) (us : List Update) (u : Update) → IsName u
    → stamps_taken q (map take_of (us ++ u ∷ [])) ≡ stamps_taken q (map take_of us)
name_stamps q [] (update.Version made) h = absurd h
name_stamps q [] (update.Place file place) h = refl
name_stamps q [] (update.Flag file flag) h = refl
name_stamps q (v ∷ us) u h =
    ap (λ ts. stamp_taken_by q (take_of v) ++ ts) (name_stamps q us u h)

-- ---- notes

-- nothing was made or sent
abbrev pub IsSilent : Work → Work → Type 0
IsSilent v w = (w.made ≡ v.made) × (w.sent ≡ v.sent) × (w.tail ≡ v.tail)

pub news_tail : (news : Bool) (work : Work) (f : FileId) (k : Key)
    → (with_news news work f k).tail ≡ work.tail
news_tail true work f k = refl
news_tail false work f k = refl

news_silent : (v w : Work) (t : Bool) (file : FileId) (k : Key) → IsSilent v w
    → IsSilent v (with_news t w file k)
news_silent v w t file k h =
    (news_made t w file k ∙ h.0, news_sent t w file k ∙ h.1, news_tail t w file k ∙ h.2)

left_silent : (work : Work) (file : FileId) (old : Place) → IsSilent work (note_left work file old)
left_silent work file old =
    chosen (IsSilent work) (old.live && not (is_root file)) (with_left work old.parent file) work
    (refl, refl, refl) (refl, refl, refl)

module _ (us : List Born) (p : FileId → Policy) (N : FileId → Type 0) where
  -- from this store and this work it came to that
  pub record Quiet (a : Store) (work : Work) (d : Done) : Type 0 where
    pub keeps : Keeps a d.store
    pub none : versions_in d.work.made ≡ versions_in work.made
    pub takes : (q : FileId)
        → stamps_taken q (map take_of d.work.made) ≡ stamps_taken q (map take_of work.made)
    pub sent : AllCarry us p N work.sent → AllCarry us p N d.work.sent
    pub tail : AllCarry us p N work.tail → AllCarry us p N d.work.tail

  pub quiet_silent : (a b : Store) (v w : Work) → Keeps a b → IsSilent v w → Quiet a v (idle b w)
  quiet_silent a b v w keeps h = record {
    keeps = keeps;
    none = ap versions_in h.0;
    takes = λ q. ap (λ made. stamps_taken q (map take_of made)) h.0;
    sent = λ s. subst (AllCarry us p N) (sym h.1) s;
    tail = λ s. subst (AllCarry us p N) (sym h.2) s;
  }

  pub quiet_store : (a b : Store) (work : Work) → Keeps a b → Quiet a work (idle b work)
  quiet_store a b work keeps = quiet_silent a b work work keeps (refl, refl, refl)

  pub quiet_idle : (a : Store) (work : Work) → Quiet a work (idle a work)
  quiet_idle a work = quiet_store a a work (Keeps-refl a)

  pub quiet_then : {a : Store} {work : Work} {d e : Done} → Quiet a work d
      → Quiet d.store d.work e → Quiet a work e
  quiet_then k l = record {
    keeps = Keeps-trans k.keeps l.keeps;
    none = l.none ∙ k.none;
    takes = λ q. l.takes q ∙ k.takes q;
    sent = λ s. l.sent (k.sent s);
    tail = λ s. l.tail (k.tail s);
  }

  -- a message that carries no content, or one of the history
  pub quiet_posted : (a b : Store) (to : ℕ) (m : Message) (work : Work) → Carries us p N m
      → Quiet b work (idle b (post a to m work))
  quiet_posted a b to m work h = record {
    keeps = Keeps-refl b;
    none = refl;
    takes = λ q. refl;
    sent = post_carry us p N a to m work h;
    tail = λ s. s;
  }

  -- such a message goes last
  pub quiet_last : (a : Store) (to : ℕ) (m : Message) (work : Work) → Carries us p N m
      → Quiet a work (idle a (with_tail work (sent_to a to m)))
  quiet_last a to m work h = record {
    keeps = Keeps-refl a;
    none = refl;
    takes = λ q. refl;
    sent = λ s. s;
    tail = last_carry us p N a to m work h;
  }

  pub quiet_post : (a : Store) (to : ℕ) (m : Message) (work : Work) → Carries us p N m
      → Quiet a work (idle a (post a to m work))
  quiet_post a to m work h = quiet_posted a a to m work h

  -- a place or a flag is made
  pub quiet_made : (a : Store) (work : Work) (u : Update) → IsName u
      → Quiet a work (idle a (with_made work u))
  quiet_made a work u name = record {
    keeps = Keeps-refl a;
    none = name_versions work.made u name;
    takes = λ q. name_stamps q work.made u name;
    sent = λ s. s;
    tail = λ s. s;
  }

  -- an intention begins
  pub begin_quiet : (a : Store) (i : Intent) (work : Work) → Quiet a work (begin_intent a i work)
  begin_quiet a i work =
      let k = key_of i in
      let t = not (stands a.intents k) in
      quiet_silent a (with_intents a (begun a.intents i)) work (with_begun_if t work k)
      (intents_keep a (begun a.intents i))
      (chosen (IsSilent work) t (with_begun work k) work (refl, refl, refl) (refl, refl, refl))

  -- ---- what a thing takes

  module _ (a : Store) where
    pub place_quiet : (file : FileId) (place : Place) (work : Work)
        → Quiet a work (take_place_noted a file place work)
    place_quiet file place work =
        let old = (own_or_blank a.names file).place in
        let news = is_newer_place a file place in
        let left = with_left_if news work file old in
        quiet_silent a (take_place a file place) work (with_news news left file key.Place)
        (place_keeps a file place)
        (news_silent work left news file key.Place
        (chosen (IsSilent work) news (note_left work file old) work (left_silent work file old)
        (refl, refl, refl)))

    pub flag_quiet : (file : FileId) (flag : Flag) (work : Work)
        → Quiet a work (take_flag_noted a file flag work)
    flag_quiet file flag work =
        let news = is_newer_flag a file flag in
        quiet_silent a (take_flag a file flag) work
        (with_news news work file (key.Flag flag.server)) (flag_keeps a file flag)
        (news_silent work work news file (key.Flag flag.server) (refl, refl, refl))

    pub entry_quiet : (dir : FileId) (e : Entry) (work : Work)
        → Quiet a work (take_entry_noted a dir e work)
    entry_quiet dir e work =
        let news = is_any_news (entry_news a dir e) in
        quiet_silent a (take_entry a dir e) work (with_news news work dir (key.Entry e.child))
        (entry_keeps a dir e)
        (news_silent work work news dir (key.Entry e.child) (refl, refl, refl))

    pub entry_cell_quiet : (dir : FileId) (e : Entry) (sure : Bool) (work : Work)
        → Quiet a work (take_entry_cell a dir e sure work)
    entry_cell_quiet dir e sure work =
        let news = is_any_news (entry_news a dir e) in
        let noted = with_news news work dir (key.Entry e.child) in
        let silent = news_silent work work news dir (key.Entry e.child) (refl, refl, refl) in
        quiet_silent a (take_entry a dir e) work (take_entry_cell a dir e sure work).work
        (entry_keeps a dir e)
        (chosen (IsSilent work) (is_place_news (entry_news a dir e) && not sure)
        (with_unsure noted dir e.child) noted silent silent)

    -- a link, which is noted
    pub link_quiet : (file : FileId) (peer birth : ℕ) (work : Work)
        → Quiet a work (link_peer a file peer birth work)
    link_quiet file peer birth work =
        quiet_silent a (link a file peer birth) work (link_peer a file peer birth work).work
        (link_keeps a file peer birth)
        (chosen (IsSilent work) (is_new_link a file peer birth) (with_linked work file peer) work
        (refl, refl, refl) (refl, refl, refl))

    -- what a server makes and takes
    pub make_place_quiet : (file : FileId) (place : Place) (work : Work)
        → Quiet a work (make_place file place (idle a work))
    make_place_quiet file place work =
        quiet_then (quiet_made a work (update.Place file place) tt)
        (place_quiet file place (with_made work (update.Place file place)))

    pub make_flag_quiet : (file : FileId) (flag : Flag) (work : Work)
        → Quiet a work (make_flag a file flag work)
    make_flag_quiet file flag work =
        quiet_then (quiet_made a work (update.Flag file flag) tt)
        (flag_quiet file flag (with_made work (update.Flag file flag)))

    pub raise_quiet : (file : FileId) (work : Work) → Quiet a work (raise_flag a file work)
    raise_quiet file work = make_flag_quiet file (own_next a file true) work

    pub lower_quiet : (file : FileId) (work : Work) → Quiet a work (lower_flag a file work)
    lower_quiet file work = make_flag_quiet file (own_next a file false) work

  pub flags_quiet : (a : Store) (file : FileId) (flags : List Flag) (work : Work)
      → Quiet a work (take_flags_noted a file flags work)
  flags_quiet a file [] work = quiet_idle a work
  flags_quiet a file (flag ∷ flags) work =
      let d = take_flag_noted a file flag work in
      quiet_then (flag_quiet a file flag work) (flags_quiet d.store file flags d.work)
