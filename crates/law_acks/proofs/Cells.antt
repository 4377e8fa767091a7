-- A cell that comes keeps the rule of the edges: where it is accepted it is taken, and answered.
use Rattle.std.proofs.Common.{ℕ, ◌≡◌, Bool, true, false, cond, not, Option, None, Some, option_map, refl, sym, ap, subst, ◌∙◌}
use Rattle.std.proofs.lemmas.Bool.{and_parts, eqb-true, not-true}
use Rattle.pg_run.specs.pg_base.declared.id.FileId.{FileId}
use Rattle.pg_run.specs.pg_base.Version.{VersionValue}
use Rattle.pg_run.specs.pg_content.Content.{ContentValue}
use Rattle.pg_run.specs.pg_content.History.{version_of}
use Rattle.pg_run.specs.pg_entries.declared.cell.Cell.{Cell}
use Rattle.pg_run.specs.pg_entries.declared.cell.Cell.TheVariants as cell
use Rattle.pg_run.specs.theory_flood.Server.{Holds}
use Rattle.pg_run.specs.pg_msg.declared.message.Ends.{Ends}
use Rattle.pg_run.specs.pg_msg.declared.message.Message.TheVariants as message
use Rattle.pg_run.specs.pg_msg.declared.work.Work.{Work}
use Rattle.pg_run.specs.pg_msg.Ends.{back}
use Rattle.pg_run.specs.pg_msg.Work.{with_sent}
use Rattle.pg_run.specs.pg_msg.Sent.{cell_key}
use Rattle.pg_run.specs.pg_replica.declared.replica.Replica.{Replica}
use Rattle.pg_run.specs.pg_replica.Replicas.{is_of_birth}
use Rattle.pg_run.specs.pg_store.declared.store.Store.{Store}
use Rattle.pg_run.specs.pg_store.Births.{has_birth}
use Rattle.pg_run.specs.pg_store.Cells.{cell_at}
use Rattle.pg_run.specs.pg_store.Links.{knows_later, link}
use Rattle.pg_run.specs.pg_store.Store.{content_of, is_held, replica_at, take_version}
use Rattle.pg_run.specs.pg_store.Together.{HoldsAsBefore, birth_at}
use Rattle.pg_run.proofs.pg_store.Pairs.{entry_as_before, flag_as_before, link_as_before, place_as_before, version_as_before}
use Rattle.pg_run.specs.pg_pieces.declared.accepting.EdgeUse.TheVariants as manner
use Rattle.pg_run.specs.pg_pieces.Accepting.{accept, is_accepted, is_current, link_peer, with_gone}
use Rattle.pg_run.specs.pg_cells.Cells.{cell as cell_done, fits, taken, taken_along}
use Rattle.pg_run.specs.pg_pieces.Done.{Done, idle}
use Rattle.pg_run.specs.pg_pieces.Posting.{sent_to}
use Rattle.pg_run.specs.theory_flood_pieces.Histories.{IsOfHistory}
use Rattle.pg_run.specs.theory_flood_pieces.Laws.{IsTaken, coming}
use Rattle.pg_run.specs.theory_flood_pieces.Seen.{Along, Hearing, hears, saying}
use Rattle.pg_run.specs.theory_flood_pieces.UpTo.{IsUpTo}
use Rattle.pg_run.specs.theory_flood_pieces.Whole.{IsOther}
use Rattle.pg_run.proofs.theory_flood_pieces.Choices.{decided}
use Rattle.pg_run.proofs.theory_flood_pieces.Events.{answer_sent}
use Rattle.pg_run.proofs.theory_flood_pieces.LawsOf.{version_of_held}
use Rattle.pg_run.proofs.theory_flood_pieces.Taking.{entry_taken, flag_taken, place_taken}
use Rattle.pg_run.proofs.theory_flood_pieces.Together.{held_of_replica, own_of_held}
use Rattle.law_acks.proofs.Contents.{IsComing, content_held, link_content}
use Rattle.law_acks.proofs.Handlers.{accept_done}
use Rattle.law_acks.proofs.Pieces.{IsDone, Stands, entry_cell_done, flag_done, link_done, place_done, sent_done, version_done}
use Rattle.pg_run.proofs.Still.{SameMail, entry_cell_still, flag_still, linked_still, place_still, version_still}

-- ---- births

pub birth_by : (o : Option Replica) (birth : ℕ) → is_of_birth o birth ≡ true
    → option_map (λ (x : Replica). x.birth) o ≡ Some birth
birth_by None birth h = absurd (let z : false ≡ true = h in cc)
birth_by (Some x) birth h = ap Some (eqb-true x.birth birth h)

replica_by : (b : Store) (file : FileId) (birth : ℕ) (o : Option Replica) → replica_at b file ≡ o
    → option_map (λ (x : Replica). x.birth) o ≡ Some birth
    → (x : Replica) × (replica_at b file ≡ Some x) × (x.birth ≡ birth)
replica_by b file birth None is h = absurd (let z : None ≡ Some birth = h in cc)
replica_by b file birth (Some x) is h = (x, is, let z : Some x.birth ≡ Some birth = h in cc)

pub replica_with : (b : Store) (file : FileId) (birth : ℕ) → birth_at b file ≡ Some birth
    → (x : Replica) × (replica_at b file ≡ Some x) × (x.birth ≡ birth)
replica_with b file birth h = replica_by b file birth (replica_at b file) refl h

-- ---- what is accepted is linked

pub accepts_link : (a : Store) (ends : Ends) (work : Work) (t u : Bool) → t ≡ true → u ≡ false
    → cond t (cond u (idle a work) (link_peer a ends.file work.from ends.sender work))
    (idle a (with_gone a ends manner.Makes work))
    ≡ link_peer a ends.file work.from ends.sender work
accepts_link a ends work true false there earlier = refl
accepts_link a ends work true true there earlier = absurd (let z : true ≡ false = earlier in cc)
accepts_link a ends work false u there earlier = absurd (let z : false ≡ true = there in cc)

-- ---- a cell is taken by a store that holds the thing

-- what is asked of a cell
abbrev pub Suits : Store → FileId → Cell → Type 0
Suits a file (cell.Place place) = Unit {0}
Suits a file (cell.Flag flag) = Unit {0}
Suits a file (cell.Entry entry sure) = Unit {0}
Suits a file (cell.Version v) = IsComing a file v

module _ (n s : ℕ) (a : Store) (heard : Hearing) (file : FileId) where
  pub record Takes (b : Store) (work : Work) (c : Cell) : Type 0 where
    pub goes : IsDone n s a heard (taken b file c work)
    pub births : HoldsAsBefore b (taken b file c work).store
    pub holds : Holds IsUpTo (cell_at (taken b file c work).store file) c
    pub same : SameMail work (taken b file c work).work

  module _ (b : Store) (work : Work) (u : Stands n s a heard b work) (x : Replica)
      (here : replica_at b file ≡ Some x) where
    held : is_held b file ≡ true
    held = held_of_replica b u.way.whole.together file x here

    cell_taken : (c : Cell) → fits file c ≡ true
        → ((v : VersionValue) → c ≡ cell.Version v → IsTaken b (take_version b file v) file (cell.Version v))
        → Takes b work c
    cell_taken (cell.Place place) fit version = record {
      goes = place_done n s a heard b work u file place;
      births = place_as_before b file place;
      holds = (let own = own_of_held b.names file held in (place_taken b file own.0 own.1 place).holds);
      same = (place_still b file place work).mail;
    }
    cell_taken (cell.Flag flag) fit version = record {
      goes = flag_done n s a heard b work u file flag;
      births = flag_as_before b file flag;
      holds = (let own = own_of_held b.names file held in (flag_taken b file own.0 own.1 flag).holds);
      same = (flag_still b file flag work).mail;
    }
    cell_taken (cell.Entry e sure) fit version = record {
      goes = entry_cell_done n s a heard b work u file e sure fit;
      births = entry_as_before b file e;
      holds = (let own = own_of_held b.names file held in
          (entry_taken b file own.0 own.1 e sure u.way.whole.names.children).holds);
      same = (entry_cell_still b file e sure work).mail;
    }
    cell_taken (cell.Version v) fit version = record {
      goes = version_done n s a heard b work u file v (version v refl).0;
      births = version_as_before b file v;
      holds = (version v refl).1;
      same = (version_still b file v work).mail;
    }

-- ---- a version of the history comes, behind a link

comes_linked : (a : Store) (file : FileId) (peer birth : ℕ) (x y : Replica) → replica_at a file ≡ Some x
    → replica_at (link a file peer birth) file ≡ Some y → (v : VersionValue) → IsComing a file v
    → IsTaken (link a file peer birth) (take_version (link a file peer birth) file v) file (cell.Version v)
comes_linked a file peer birth x y old here v k =
    let b = link a file peer birth in
    let of = k.held x old in
    let same : content_of b file ≡ x.content = link_content a file peer birth ∙ content_held a file x old in
    let history : IsOfHistory k.history (content_of b file) = subst (IsOfHistory k.history) (sym same) of.0 in
    let policy : (content_of b file).policy ≡ k.policy = ap (λ (z : ContentValue). z.policy) same ∙ of.1 in
    let whole : coming b file k.history k.made ≡ v =
    ap (λ p. version_of p k.history k.made) policy ∙ sym k.whole in
    subst (λ (w : VersionValue). IsTaken b (take_version b file w) file (cell.Version w)) whole
    (version_of_held b file (y, here) k.history k.made history k.among)

-- ---- A CELL

module _ (along : Along) (n s : ℕ) (a : Store) (ends : Ends) (tag : ℕ) (c : Cell) (work : Work)
    (other : IsOther n s work.from) where
  abbrev Heard : Hearing
  Heard = hears along (saying work.from s (message.Cell ends tag c))

  abbrev Linked : Done
  Linked = link_peer a ends.file work.from ends.sender work

  abbrev Taken : Done
  Taken = taken Linked.store ends.file c Linked.work

  module _ (u : Stands n s a Heard a work) (suits : Suits a ends.file c) (fit : fits ends.file c ≡ true)
      (birth : birth_at a ends.file ≡ Some ends.receiver) where
    linked_birth : birth_at Linked.store ends.file ≡ Some ends.receiver
    linked_birth = (link_as_before a ends.file work.from ends.sender).births ends.file ∙ birth

    suits_version : (d : Cell) → Suits a ends.file d → (v : VersionValue) → d ≡ cell.Version v
        → IsComing a ends.file v
    suits_version (cell.Place place) h v is = absurd (let z : cell.Place place ≡ cell.Version v = is in cc)
    suits_version (cell.Flag flag) h v is = absurd (let z : cell.Flag flag ≡ cell.Version v = is in cc)
    suits_version (cell.Entry e sure) h v is = absurd (let z : cell.Entry e sure ≡ cell.Version v = is in cc)
    suits_version (cell.Version w) h v is =
        let same : w ≡ v = (let z : cell.Version w ≡ cell.Version v = is in cc) in
        subst (IsComing a ends.file) same h

    takes : Takes n s a Heard ends.file Linked.store Linked.work c
    takes =
        let old = replica_with a ends.file ends.receiver birth in
        let new = replica_with Linked.store ends.file ends.receiver linked_birth in
        cell_taken n s a Heard ends.file Linked.store Linked.work
        (link_done n s a Heard a work u ends.file work.from ends.sender other) new.0 new.1 c fit
        (λ v is. comes_linked a ends.file work.from ends.sender old.0 new.0 old.1 new.1 v
        (suits_version c suits v is))

    answered_done : IsDone n s a Heard (taken_along ends tag c Linked)
    answered_done =
        let t = takes in
        let mine = replica_with Taken.store ends.file ends.receiver (t.births.births ends.file ∙ linked_birth) in
        let answer = message.Ack (back ends) (cell_key c) tag in
        let from : Taken.work.from ≡ work.from =
        t.same.from ∙ (linked_still a ends.file work.from ends.sender work).mail.from in
        subst (λ (to : ℕ). Stands n s a Heard Taken.store (with_sent Taken.work (sent_to Taken.store to answer)))
        (sym from)
        (sent_done n s a Heard Taken.store Taken.work t.goes (sent_to Taken.store work.from answer)
        (answer_sent along s a Taken.store work.from ends tag c t.goes.way.whole.server mine.0 mine.1 mine.2 t.holds) tt)

  accepted_done : Stands n s a Heard a work → Suits a ends.file c → fits ends.file c ≡ true
      → is_accepted a work.from manner.Makes ends ≡ true
      → IsDone n s a Heard (taken_along ends tag c (accept a ends manner.Makes work))
  accepted_done u suits fit accepted =
      let current = (and_parts (is_current a work.from ends) true accepted).0 in
      let parts = and_parts (has_birth a ends.file ends.receiver) (not (knows_later a ends.file work.from ends.sender)) current in
      let is : accept a ends manner.Makes work ≡ Linked =
      accepts_link a ends work (has_birth a ends.file ends.receiver) (knows_later a ends.file work.from ends.sender)
      parts.0 (not-true (knows_later a ends.file work.from ends.sender) parts.1) in
      subst (λ (d : Done). IsDone n s a Heard (taken_along ends tag c d)) (sym is)
      (answered_done u suits fit (birth_by (replica_at a ends.file) ends.receiver parts.0))

  pub cell_is_done : Stands n s a Heard a work → Suits a ends.file c
      → IsDone n s a Heard (cell_done a ends tag c work)
  cell_is_done u suits =
      let accepted = is_accepted a work.from manner.Makes ends in
      let met = accept a ends manner.Makes work in
      decided (IsDone n s a Heard) (fits ends.file c)
      (cond accepted (taken_along ends tag c met) met) (idle a work)
      (λ fit. decided (IsDone n s a Heard) accepted (taken_along ends tag c met) met
      (λ is. accepted_done u suits fit is)
      (λ no_way. accept_done n s a Heard a work u ends manner.Makes other))
      (λ misfit. u)
