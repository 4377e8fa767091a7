-- In the midst of an event: each place that a server knows, is to tell, or has told may stand. What
-- the pieces of handlers do keeps it.
use Rattle.std.proofs.Common.{ℕ, ◌≡◌, ◌≤◌, ◌<◌, max, Bool, true, cond, List, [], ◌∷◌, ◌++◌, Option, Some, refl, sym, ap, subst, ◌∙◌, inl, inr, arith, All}
use Rattle.std.proofs.lemmas.Bool.Decides.{nat_tests}
use Rattle.std.proofs.lemmas.List.Elements.{All-append, All-cons, All-nil}
use Rattle.law_frame.specs.pg_run.pg_base.declared.id.FileId.{FileId}
use Rattle.law_frame.specs.pg_run.pg_base.declared.stamp.Stamp.{Stamp}
use Rattle.law_frame.specs.pg_run.pg_base.Stamp.{is_before}
use Rattle.law_frame.specs.pg_run.pg_base.Version.{VersionValue}
use Rattle.law_frame.specs.pg_run.pg_edges.declared.key.Key.{Key}
use Rattle.law_frame.specs.pg_run.pg_entries.declared.entry.Entry.{Entry}
use Rattle.law_frame.specs.pg_run.pg_house.Work.{State, state_of}
use Rattle.law_frame.proofs.pg_run.pg_house.Drawn.{IsDrawn, drawn_on, drawn_place}
use Rattle.law_frame.proofs.pg_run.pg_house.Noting.{one_back}
use Rattle.law_frame.proofs.pg_run.theory_flood_pieces.Choices.{chosen}
use Rattle.law_frame.proofs.pg_run.Still.{IsStill, entry_cell_still, entry_still, flag_still, linked_still, news_still, place_still, version_still}
use Rattle.law_frame.specs.pg_run.pg_intent.declared.intent.Intent.{Intent}
use Rattle.law_frame.specs.pg_run.pg_msg.declared.message.Message.{Message}
use Rattle.law_frame.specs.pg_run.pg_msg.declared.update.Update.{Update}
use Rattle.law_frame.specs.pg_run.pg_msg.declared.update.Update.TheVariants as update
use Rattle.law_frame.specs.pg_run.pg_msg.declared.work.Work.{Work}
use Rattle.law_frame.specs.pg_run.pg_msg.Work.{with_made}
use Rattle.law_frame.specs.pg_run.pg_names.declared.attributes.Attributes.{Attributes}
use Rattle.law_frame.specs.pg_run.pg_names.Names.{NamesValue, is_place_new, join_entry, join_place, own_at, raise}
use Rattle.law_frame.specs.pg_run.pg_names.Names as names
use Rattle.law_frame.proofs.pg_run.pg_names.Lookups.{update_frame}
use Rattle.law_frame.specs.pg_run.pg_patch.Ranges.{RangesValue}
use Rattle.law_frame.specs.pg_run.pg_register.declared.flag.Flag.{Flag}
use Rattle.law_frame.specs.pg_run.pg_register.declared.place.Place.{Place}
use Rattle.law_frame.specs.pg_run.pg_store.declared.store.Store.{Store}
use Rattle.law_frame.specs.pg_run.pg_store.Beginning.{with_intents}
use Rattle.law_frame.specs.pg_run.pg_store.Links.{is_linked, is_new_link, put_link, unlink}
use Rattle.law_frame.specs.pg_run.pg_store.Seen.{server_of}
use Rattle.law_frame.specs.pg_run.pg_store.Store.{is_new_version, is_newer_entry, is_newer_flag, is_newer_place, put_entry, put_flag, put_place, put_version, take_entry, take_flag, take_place, take_version, write}
use Rattle.law_frame.specs.pg_run.pg_pieces.Accepting.{link_peer}
use Rattle.law_frame.specs.pg_run.pg_pieces.Done.{Done, idle}
use Rattle.law_frame.specs.pg_run.pg_pieces.Making.{make_flag, own_next, raise_flag}
use Rattle.law_frame.specs.pg_run.pg_calls.Making.{make_place}
use Rattle.law_frame.specs.pg_run.pg_pieces.Posting.{post, sent_to}
use Rattle.law_frame.specs.pg_run.pg_pieces.Taking.{take_entry_cell, take_entry_noted, take_flag_noted, take_place_noted, take_version_noted, with_news}
use Rattle.law_places.proofs.Origins.{IsMade}
use Rattle.law_places.proofs.Messages.{OfEntry, OfMessage, OfSent}
use Rattle.law_places.proofs.Timed.{AreTimed, at_least, at_most, entry_timed, flag_timed, place_timed, raised_timed}
use Rattle.law_places.proofs.Known.{AreNames, OfAll, entry_names, flag_names, place_names, raised_names}

pub news_made : (t : Bool) (work : Work) (f : FileId) (k : Key) → (with_news t work f k).made ≡ work.made
news_made t work f k = (news_still t work f k).made

-- ---- a place with a later stamp is taken

pub before_later : (t u : Stamp) → t.time < u.time → is_before t u ≡ true
before_later t u lt = grind (arith, nat_tests)

placed_late : (a : Store) (f : FileId) (place : Place) (own : Attributes) → own_at a.names f ≡ Some own → own.place.stamp.time < place.stamp.time
    → place.stamp.time ≤ (take_place a f place).names.last
placed_late a f place own held later =
    let t : is_newer_place a f place ≡ true = ap (λ (o : Option Attributes). is_place_new o place) held ∙ before_later own.place.stamp place.stamp later in
    let e : (take_place a f place).names.last ≡ max (join_place a.names f place).last place.stamp.time =
    ap (λ (b : Bool). (cond b (put_place a f place) a).names.last) t in
    let m = at_most (join_place a.names f place).last place.stamp.time in
    omega arith

took_server : (a : Store) (f : FileId) (place : Place) → server_of (take_place a f place) ≡ server_of a
took_server a f place =
    chosen (λ (b : Store). server_of b ≡ server_of a) (is_newer_place a f place) (put_place a f place) a
    (update_frame a.names f (names.with_place place)).server refl

module _ (P : FileId → Place → Type 0) where
  -- ---- a server

  pub record AreKnown (a : Store) : Type 0 where
    pub names : AreNames P a.names
    pub intents : OfAll P a.intents

  -- in the midst of an event at server s, whose greatest time was this one before
  pub record IsFine (s least : ℕ) (d : Done) : Type 0 where
    pub known : AreKnown d.store
    pub timed : AreTimed d.store.names
    pub sent : All (OfSent P) d.work.sent
    pub drawn : IsDrawn s least (state_of d.store.names d.work)

  module _ (s least : ℕ) where
    abbrev Fine : Done → Type 0
    Fine d = IsFine s least d

    abbrev pub At : Done → State
    At d = state_of d.store.names d.work

    -- no place is made
    pub same_drawn : (d e : Done) → server_of e.store ≡ server_of d.store → d.store.names.last ≤ e.store.names.last → e.work.made ≡ d.work.made → Fine d → IsDrawn s least (At e)
    same_drawn d e server up made k =
        drawn_on s least (At d) (At e) k.drawn server up (λ f p h. subst (λ us. IsMade us f p) made h)

    -- nothing that counts here changes
    pub as_before : (d e : Done) → e.store.names ≡ d.store.names → e.store.intents ≡ d.store.intents → e.work.sent ≡ d.work.sent → e.work.made ≡ d.work.made → Fine d → Fine e
    as_before d e names intents sent made k = record {
      known = record { names = subst (AreNames P) (sym names) k.known.names; intents = subst (OfAll P) (sym intents) k.known.intents };
      timed = subst AreTimed (sym names) k.timed;
      sent = subst (All (OfSent P)) (sym sent) k.sent;
      drawn = same_drawn d e (ap (λ (n : NamesValue). n.server) names) (let l = ap (λ (n : NamesValue). n.last) names in omega arith) made k;
    }

    -- what is made is no place
    pub making : (d : Done) (work : Work) (u : Update) → work.sent ≡ d.work.sent → work.made ≡ d.work.made ++ u ∷ []
        → ((f : FileId) (p : Place) → ◌≡◌ {A = Update} u (update.Place f p) → ⊥) → Fine d → Fine (idle d.store work)
    making d work u sent made plain k = record {
      known = k.known;
      timed = k.timed;
      sent = subst (All (OfSent P)) (sym sent) k.sent;
      drawn =
          drawn_on s least (At d) (At (idle d.store work)) k.drawn refl (omega arith)
          (λ f p h. elim (one_back (update.Place f p) u d.work.made (subst (λ us. IsMade us f p) made h)) [
            | inl old ↦ old
            | inr new ↦ absurd (plain f p new)
          ]);
    }

    -- one message more is sent
    pub posted : (d : Done) (to : ℕ) (m : Message) → OfMessage P m → Fine d → Fine (idle d.store (post d.store to m d.work))
    posted d to m of k = record {
      known = k.known;
      timed = k.timed;
      sent = All-append (OfSent P) d.work.sent (sent_to d.store to m ∷ []) k.sent (All-cons (OfSent P) (sent_to d.store to m) [] of (All-nil (OfSent P)));
      drawn = same_drawn d (idle d.store (post d.store to m d.work)) refl (omega arith) refl k;
    }

    -- these intentions stand
    pub intending : (d : Done) (is : List Intent) → OfAll P is → Fine d → Fine (idle (with_intents d.store is) d.work)
    intending d is h k = record {
      known = record { names = k.known.names; intents = h };
      timed = k.timed;
      sent = k.sent;
      drawn = same_drawn d (idle (with_intents d.store is) d.work) refl (omega arith) refl k;
    }

    -- ---- edges

    pub linked : (d : Done) (f : FileId) (peer birth : ℕ) → Fine d → Fine (link_peer d.store f peer birth d.work)
    linked d f peer birth k =
        let same = is_new_link d.store f peer birth in
        let still = linked_still d.store f peer birth d.work in
        as_before d (link_peer d.store f peer birth d.work)
        (chosen (λ (a : Store). a.names ≡ d.store.names) same (put_link d.store f peer birth) d.store refl refl)
        (chosen (λ (a : Store). a.intents ≡ d.store.intents) same (put_link d.store f peer birth) d.store refl refl)
        still.mail.sent still.made k

    pub unlinked : (d : Done) (f : FileId) (peer birth : ℕ) → Fine d → Fine (idle (unlink d.store f peer birth) d.work)
    unlinked d f peer birth k =
        as_before d (idle (unlink d.store f peer birth) d.work)
        (chosen (λ (a : Store). a.names ≡ d.store.names) (is_linked d.store f peer birth) _ d.store refl refl)
        (chosen (λ (a : Store). a.intents ≡ d.store.intents) (is_linked d.store f peer birth) _ d.store refl refl) refl refl k

    -- ---- a place comes

    module _ (d : Done) (k : Fine d) where
      -- the work changes where it does not count
      worked : (a : Store) (work : Work) → IsStill d.work work → Fine (idle a d.work) → Fine (idle a work)
      worked a work still h = as_before (idle a d.work) (idle a work) refl refl still.mail.sent still.made h

      put_place_fine : (f : FileId) (place : Place) → P f place → Fine (idle (put_place d.store f place) d.work)
      put_place_fine f place new = record {
        known = record { names = raised_names P (join_place d.store.names f place) (place_names P d.store.names k.known.names f place new) place.stamp.time; intents = k.known.intents };
        timed = place_timed d.store.names k.timed f place;
        sent = k.sent;
        drawn =
            let frame = update_frame d.store.names f (names.with_place place) in
            same_drawn d (idle (put_place d.store f place) d.work) frame.server
            (let e = frame.last in let m = at_least (join_place d.store.names f place).last place.stamp.time in omega arith) refl k;
      }

      pub place_fine : (f : FileId) (place : Place) → P f place → Fine (take_place_noted d.store f place d.work)
      place_fine f place new =
          worked (take_place d.store f place) _ (place_still d.store f place d.work)
          (chosen (λ (a : Store). Fine (idle a d.work)) (is_newer_place d.store f place) (put_place d.store f place) d.store
          (put_place_fine f place new) k)

      put_flag_fine : (f : FileId) (flag : Flag) → Fine (idle (put_flag d.store f flag) d.work)
      put_flag_fine f flag = record {
        known = record { names = flag_names P d.store.names k.known.names f flag; intents = k.known.intents };
        timed = flag_timed d.store.names k.timed f flag;
        sent = k.sent;
        drawn = (let frame = update_frame d.store.names f (names.with_flag flag) in same_drawn d (idle (put_flag d.store f flag) d.work) frame.server (let e = frame.last in omega arith) refl k);
      }

      pub flag_fine : (f : FileId) (flag : Flag) → Fine (take_flag_noted d.store f flag d.work)
      flag_fine f flag =
          worked (take_flag d.store f flag) _ (flag_still d.store f flag d.work)
          (chosen (λ (a : Store). Fine (idle a d.work)) (is_newer_flag d.store f flag) (put_flag d.store f flag) d.store
          (put_flag_fine f flag) k)

      -- ---- a cell of a directory comes

      put_entry_fine : (dir : FileId) (e : Entry) → OfEntry P e → Fine (idle (put_entry d.store dir e) d.work)
      put_entry_fine dir e new = record {
        known = record { names = raised_names P (join_entry d.store.names dir e) (entry_names P d.store.names k.known.names dir e new) e.place.stamp.time; intents = k.known.intents };
        timed = entry_timed d.store.names k.timed dir e;
        sent = k.sent;
        drawn =
            let frame = update_frame d.store.names dir (names.with_joined e) in
            same_drawn d (idle (put_entry d.store dir e) d.work) frame.server
            (let q = frame.last in let m = at_least (join_entry d.store.names dir e).last e.place.stamp.time in omega arith) refl k;
      }

      pub took_entry : (dir : FileId) (e : Entry) → OfEntry P e → Fine (idle (take_entry d.store dir e) d.work)
      took_entry dir e new =
          chosen (λ (a : Store). Fine (idle a d.work)) (is_newer_entry d.store dir e) (put_entry d.store dir e) d.store (put_entry_fine dir e new) k

      pub entry_fine : (dir : FileId) (e : Entry) → OfEntry P e → Fine (take_entry_noted d.store dir e d.work)
      entry_fine dir e new = worked (take_entry d.store dir e) _ (entry_still d.store dir e d.work) (took_entry dir e new)

      pub entry_cell_fine : (dir : FileId) (e : Entry) (sure : Bool) → OfEntry P e → Fine (take_entry_cell d.store dir e sure d.work)
      entry_cell_fine dir e sure new =
          worked (take_entry d.store dir e) _ (entry_cell_still d.store dir e sure d.work) (took_entry dir e new)

      -- ---- versions

      raised_fine : (a : Store) (time : ℕ) → a.names ≡ raise d.store.names time → a.intents ≡ d.store.intents → Fine (idle a d.work)
      raised_fine a time names intents = record {
        known = record { names = subst (AreNames P) (sym names) (raised_names P d.store.names k.known.names time); intents = subst (OfAll P) (sym intents) k.known.intents };
        timed = subst AreTimed (sym names) (raised_timed d.store.names k.timed time);
        sent = k.sent;
        drawn =
            same_drawn d (idle a d.work) (ap (λ (n : NamesValue). n.server) names)
            (let e = ap (λ (n : NamesValue). n.last) names in let m = at_least d.store.names.last time in omega arith) refl k;
      }

      pub version_fine : (f : FileId) (v : VersionValue) → Fine (take_version_noted d.store f v d.work)
      version_fine f v =
          worked (take_version d.store f v) _ (version_still d.store f v d.work)
          (chosen (λ (a : Store). Fine (idle a d.work)) (is_new_version d.store f v) (put_version d.store f v) d.store
          (raised_fine (put_version d.store f v) v.head.stamp.time refl refl) k)

      pub write_fine : (f : FileId) (stamp : Stamp) (ranges : RangesValue) → Fine (idle (write d.store f stamp ranges) d.work)
      write_fine f stamp ranges = raised_fine (write d.store f stamp ranges) stamp.time refl refl

    -- a flag is made
    pub made_flag : (f : FileId) (flag : Flag) (d : Done) → Fine d → Fine (make_flag d.store f flag d.work)
    made_flag f flag d k =
        let work = with_made d.work (update.Flag f flag) in
        flag_fine (idle d.store work) (making d work (update.Flag f flag) refl refl (λ g p h. cc) k) f flag

    pub raised_flag : (f : FileId) (d : Done) → Fine d → Fine (raise_flag d.store f d.work)
    raised_flag f d k = made_flag f (own_next d.store f true) d k

    -- a place is made, and taken. Its stamp was drawn at an earlier state, since which none was
    -- made
    pub made_place : (o d : Done) (f : FileId) (place : Place) (own : Attributes) → own_at d.store.names f ≡ Some own → own.place.stamp.time < place.stamp.time
        → IsDrawn s least (At o) → d.work.made ≡ o.work.made → place.stamp.server ≡ s → o.store.names.last < place.stamp.time
        → P f place → Fine d → Fine (make_place f place d)
    made_place o d f place own held later drawn before server late new k =
        let e = make_place f place d in
        let still = place_still d.store f place (with_made d.work (update.Place f place)) in
        let taken = place_fine d k f place new in
        let other = (place_still d.store f place d.work).mail.sent in
        record {
          known = taken.known;
          timed = taken.timed;
          sent = subst (All (OfSent P)) (other ∙ sym still.mail.sent) taken.sent;
          drawn =
              drawn_place s least (At o) (At e) drawn (took_server d.store f place ∙ k.drawn.server ∙ sym drawn.server) f place server late
              (placed_late d.store f place own held later) (still.made ∙ ap (λ us. us ++ update.Place f place ∷ []) before);
        }
