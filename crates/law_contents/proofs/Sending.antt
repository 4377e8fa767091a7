-- What a server sends of contents is of the histories of its files.
use Rattle.std.proofs.Common.{ℕ, ◌≡◌, Bool, true, false, cond, List, [], ◌∷◌, ◌++◌, Option, None, Some, refl, sym, ap, subst, ◌∙◌, inr, All}
use Rattle.std.specs.Prelude.{nat_lt}
use Rattle.std.proofs.lemmas.List.Elements.{All-append, All-nil, All-weaker}
use Rattle.pg_run.specs.pg_base.declared.head.Head.{Head}
use Rattle.pg_run.specs.pg_base.declared.id.FileId.{FileId}
use Rattle.pg_run.specs.pg_base.declared.policy.Policy.{Policy}
use Rattle.pg_run.specs.pg_base.Id.{is_same_file}
use Rattle.pg_run.specs.pg_base.Version.{VersionValue}
use Rattle.pg_run.specs.pg_content.Content.{Among, ContentValue}
use Rattle.pg_run.specs.pg_content.History.{IsHistory, Made, body_of}
use Rattle.pg_run.proofs.pg_content.StandsWritten.{earlier_version}
use Rattle.pg_run.specs.pg_delta.declared.delta.KeptDelta.{KeptDelta}
use Rattle.pg_run.specs.pg_delta.Leading.{IsTrueDelta}
use Rattle.pg_run.specs.pg_delta.Taking.{delta_to}
use Rattle.pg_run.proofs.pg_delta.Leads.{true_later}
use Rattle.pg_run.specs.pg_edges.declared.key.Key.{Key}
use Rattle.pg_run.specs.pg_edges.declared.key.Key.TheVariants as key
use Rattle.pg_run.specs.pg_entries.declared.cell.Cell.{Cell}
use Rattle.pg_run.specs.pg_entries.declared.cell.Cell.TheVariants as cell
use Rattle.pg_run.specs.pg_entries.declared.entry.Entry.{Entry}
use Rattle.pg_run.specs.pg_msg.declared.message.Ends.{Ends}
use Rattle.pg_run.specs.pg_msg.declared.message.Message.{Message}
use Rattle.pg_run.specs.pg_msg.declared.message.Message.TheVariants as message
use Rattle.pg_run.specs.pg_msg.declared.message.Piece.{Piece}
use Rattle.pg_run.specs.pg_msg.declared.message.Sent.{Sent}
use Rattle.pg_run.specs.pg_names.Names.{cell_at as entry_at, own_or_blank}
use Rattle.pg_run.specs.pg_register.declared.flag.Flag.{Flag}
use Rattle.pg_run.specs.pg_register.Flag.{flag_of}
use Rattle.pg_run.specs.pg_replica.Replica.{cell_at as head_at}
use Rattle.pg_run.proofs.pg_replica.Growth.{cell_head}
use Rattle.pg_run.specs.theory_bodies.Book.{IsHeadOf, IsVersionOf}
use Rattle.pg_run.specs.theory_bodies.Telling.{IsSlice}
use Rattle.pg_run.specs.Journal.{Born, made_for, made_of}
use Rattle.pg_run.specs.pg_store.declared.store.Store.{Store}
use Rattle.pg_run.specs.pg_store.Cells.{cell_at, entry_cell, flag_cell, is_sure, version_cell}
use Rattle.pg_run.specs.pg_store.Store.{content_of}
use Rattle.pg_run.specs.pg_cells.Sending.{Wanted, cells_where}
use Rattle.pg_run.proofs.theory_flood_pieces.Choices.{chosen}
use Rattle.law_contents.proofs.Carrying.{Carries, CarriesBytes, CarriesCell, CarriesHead, OfAny}
use Rattle.law_contents.proofs.Cells.{IsCellSent, cells_all}
use Rattle.law_contents.proofs.Changes.{Core, content_in, content_is, core_at}
use Rattle.law_contents.proofs.Files.{held_version}
use Rattle.law_contents.proofs.Histories.{later_body, later_head, update_of}
use Rattle.law_contents.proofs.Servers.{Came, Stands, file_held}

abbrev pub CarriesSent : List Born → (FileId → Policy) → (FileId → Type 0) → Sent → Type 0
CarriesSent us p N m = Carries us p N m.packet.message

abbrev pub AllCarry : List Born → (FileId → Policy) → (FileId → Type 0) → List Sent → Type 0
AllCarry us p N ms = All (CarriesSent us p N) ms

pub none_carry : (us : List Born) (p : FileId → Policy) (N : FileId → Type 0) → AllCarry us p N []
none_carry us p N = All-nil (CarriesSent us p N)

-- ---- one version more

version_by : (p : Policy) (m : Made) (h : List Made) (v : VersionValue) (t : Bool)
    → IsHistory (cond t (m ∷ h) h) → IsVersionOf p h v → IsVersionOf p (cond t (m ∷ h) h) v
version_by p m h v true k c = record {
  made = c.made;
  among = inr c.among;
  whole = c.whole ∙ earlier_version m h k p c.made c.among;
}
version_by p m h v false k c = c

head_by : (p : Policy) (m : Made) (h : List Made) (head : Head) (t : Bool)
    → IsHistory (cond t (m ∷ h) h) → IsHeadOf p h head → IsHeadOf p (cond t (m ∷ h) h) head
head_by p m h head true k c = later_head p m h k head c
head_by p m h head false k c = c

change_by : (p : Policy) (m : Made) (h : List Made) (d : KeptDelta) (t : Bool)
    → IsHistory (cond t (m ∷ h) h) → IsTrueDelta p h d → IsTrueDelta p (cond t (m ∷ h) h) d
change_by p m h d true k c = true_later p m h k d c
change_by p m h d false k c = c

body_by : (p : Policy) (m : Made) (h : List Made) (head : Head) (t : Bool)
    → IsHistory (cond t (m ∷ h) h) → IsHeadOf p h head
    → body_of p (cond t (m ∷ h) h) head.stamp ≡ body_of p h head.stamp
body_by p m h head true k c = later_body p m h k head c
body_by p m h head false k c = refl

module _ (u : Born) (us : List Born) (p : FileId → Policy) (N : FileId → Type 0)
    (k : (file : FileId) → IsHistory (made_for file (u ∷ us))) where
  cell_more : (file : FileId) (c : Cell) → CarriesCell us p file c → CarriesCell (u ∷ us) p file c
  cell_more file (cell.Place place) h = tt
  cell_more file (cell.Flag flag) h = tt
  cell_more file (cell.Entry entry sure) h = tt
  cell_more file (cell.Version v) h =
      version_by (p file) (made_of u) (made_for file us) v (is_same_file file u.made.file) (k file) h

  head_more : (file : FileId) (head : Head) → CarriesHead us p file head
      → CarriesHead (u ∷ us) p file head
  head_more file head h =
      head_by (p file) (made_of u) (made_for file us) head (is_same_file file u.made.file) (k file) h

  change_more : (file : FileId) (d : KeptDelta) → IsTrueDelta (p file) (made_for file us) d
      → IsTrueDelta (p file) (made_for file (u ∷ us)) d
  change_more file d h =
      change_by (p file) (made_of u) (made_for file us) d (is_same_file file u.made.file) (k file) h

  bytes_more : (file : FileId) (q : Piece) → CarriesHead us p file q.head
      → CarriesBytes us p file q → CarriesBytes (u ∷ us) p file q
  bytes_more file q head h =
      let P : List ℕ → Type 0 = (λ body. IsSlice body q.offset q.bytes) in
      subst P (sym (body_by (p file) (made_of u) (made_for file us) q.head
      (is_same_file file u.made.file) (k file) head)) h

  carries_more : (m : Message) → Carries us p N m → Carries (u ∷ us) p N m
  carries_more (message.Cell ends tag c) h = cell_more ends.file c h
  carries_more (message.Harbinger ends tag head) h = head_more ends.file head h
  carries_more (message.Delta ends d) h = (
    head_more ends.file d.head h.0,
    change_more ends.file (delta_to d.from d.head.stamp d.ranges) h.1,
    h.2,
  )
  carries_more (message.Piece ends q) h =
      (head_more ends.file q.head h.0, bytes_more ends.file q h.0 h.1)
  carries_more (message.Grant ends granted) h = h
  carries_more m h = tt

  pub all_carry_more : (ms : List Sent) → AllCarry us p N ms → AllCarry (u ∷ us) p N ms
  all_carry_more ms h =
      All-weaker (CarriesSent us p N) (CarriesSent (u ∷ us) p N)
      (λ m c. carries_more m.packet.message c) ms h

-- ---- other policies of what was not given out, and more ids

module _ (us : List Born) (p q : FileId → Policy) (N M : FileId → Type 0)
    (named : (v : Born) → Among v us → N v.made.file)
    (same : (file : FileId) → N file → q file ≡ p file)
    (more : (file : FileId) → N file → M file) where
  named_for : (file : FileId) (m : Made) → Among m (made_for file us) → N file
  named_for file m l = let r = update_of file m us l in subst N (sym r.2) (named r.0 r.1)

  cell_other : (file : FileId) (c : Cell) → CarriesCell us p file c → CarriesCell us q file c
  cell_other file (cell.Place place) h = tt
  cell_other file (cell.Flag flag) h = tt
  cell_other file (cell.Entry entry sure) h = tt
  cell_other file (cell.Version v) h =
      let P : Policy → Type 0 = (λ x. IsVersionOf x (made_for file us) v) in
      subst P (sym (same file (named_for file h.made h.among))) h

  -- of a file that has a version the policy is as it was
  made_same : (file : FileId) (m : Made) → Among m (made_for file us) → q file ≡ p file
  made_same file m l = same file (named_for file m l)

  -- so what holds by its policy holds by the other one
  by_other : (P : FileId → Policy → Type 0) (file : FileId) (head : Head)
      → CarriesHead us p file head → P file (p file) → P file (q file)
  by_other P file head h is = subst (P file) (sym (made_same file h.made h.among)) is

  head_other : (file : FileId) (head : Head) → CarriesHead us p file head
      → CarriesHead us q file head
  head_other file head h =
      by_other (λ f x. IsHeadOf x (made_for f us) head) file head h h

  carries_other : (m : Message) → Carries us p N m → Carries us q M m
  carries_other (message.Cell ends tag c) h = cell_other ends.file c h
  carries_other (message.Harbinger ends tag head) h = head_other ends.file head h
  carries_other (message.Delta ends d) h = (
    head_other ends.file d.head h.0,
    by_other (λ f x. IsTrueDelta x (made_for f us) (delta_to d.from d.head.stamp d.ranges)) ends.file
        d.head h.0 h.1,
    h.2,
  )
  carries_other (message.Piece ends r) h = (
    head_other ends.file r.head h.0,
    by_other (λ f x. IsSlice (body_of x (made_for f us) r.head.stamp) r.offset r.bytes) ends.file
        r.head h.0 h.1,
  )
  carries_other (message.Grant ends granted) h =
      (h.0 ∙ sym (same ends.file h.1), more ends.file h.1)
  carries_other m h = tt

  pub all_carry_other : (ms : List Sent) → AllCarry us p N ms → AllCarry us q M ms
  all_carry_other ms h =
      All-weaker (CarriesSent us p N) (CarriesSent us q M)
      (λ m c. carries_other m.packet.message c) ms h

-- more ids alone
carries_names : (us : List Born) (p : FileId → Policy) (N M : FileId → Type 0)
    → ((file : FileId) → N file → M file) → (m : Message) → Carries us p N m → Carries us p M m
carries_names us p N M more (message.Cell ends tag c) h = h
carries_names us p N M more (message.Harbinger ends tag head) h = h
carries_names us p N M more (message.Delta ends d) h = h
carries_names us p N M more (message.Piece ends q) h = h
carries_names us p N M more (message.Grant ends granted) h = (h.0, more ends.file h.1)
carries_names us p N M more m h = tt

pub all_carry_names : (us : List Born) (p : FileId → Policy) (N M : FileId → Type 0)
    → ((file : FileId) → N file → M file) → (ms : List Sent) → AllCarry us p N ms
    → AllCarry us p M ms
all_carry_names us p N M more ms h =
    All-weaker (CarriesSent us p N) (CarriesSent us p M)
    (λ m c. carries_names us p N M more m.packet.message c) ms h

-- ---- the cells of a server

module _ {s : ℕ} {b : Store} {us : List Born} {p : FileId → Policy} {came : Came}
    (k : Stands s b us p came) (N : FileId → Type 0) where
  abbrev OfKey : FileId → Option Cell → Type 0
  OfKey file o = OfAny (IsCellSent (Carries us p N) b) file o

  flag_any : (file : FileId) (o : Option Flag) → OfKey file (flag_cell o)
  flag_any file None = tt
  flag_any file (Some flag) = λ sender receiver tag. tt

  entry_any : (file : FileId) (o : Option Entry) (sure : Bool) → OfKey file (entry_cell o sure)
  entry_any file None sure = tt
  entry_any file (Some entry) sure = λ sender receiver tag. tt

  -- a version, or what is known of it without its body
  head_of : (file : FileId) (v : VersionValue) → IsVersionOf (p file) (made_for file us) v
      → CarriesHead us p file v.head
  head_of file v is = record {
    made = is.made;
    among = is.among;
    whole = ap (λ (x : VersionValue). x.head) is.whole;
  }

  version_told : (file : FileId) (v : VersionValue) → IsVersionOf (p file) (made_for file us) v
      → IsCellSent (Carries us p N) b file (cell.Version v)
  version_told file v is sender receiver tag =
      let ends : Ends = record { file = file; sender = sender; receiver = receiver } in
      chosen (Carries us p N) (nat_lt 1024 v.head.length) (message.Harbinger ends tag v.head)
      (message.Cell ends tag (cell.Version v)) (head_of file v is) is

  -- each head is a version of the history
  pub head_version : (file : FileId) (o : Option Core) → core_at b file ≡ o → (v : VersionValue)
      → Among v (content_in o).heads → IsVersionOf (p file) (made_for file us) v
  head_version file None e v l = absurd l
  head_version file (Some c) e v l =
      let m = held_version (file_held k file c e) v l in
      record { made = m.0; among = m.1; whole = m.2 }

  head_any : (file : FileId) (q : Key) (o : Option VersionValue)
      → head_at (content_of b file).heads q ≡ o → OfKey file (version_cell o)
  head_any file q None is = tt
  head_any file q (Some v) is =
      let P : ContentValue → Type 0 = (λ c. Among v c.heads) in
      let l = subst P (content_is b file) (cell_head (content_of b file).heads q v is).0 in
      version_told file v (head_version file (core_at b file) refl v l)

  cell_any : (file : FileId) (q : Key) → OfKey file (cell_at b file q)
  cell_any file key.Place = λ sender receiver tag. tt
  cell_any file (key.Flag server) =
      flag_any file (flag_of (own_or_blank b.names file).flags server)
  cell_any file (key.Entry child) =
      entry_any file (entry_at b.names file child) (is_sure b file child)
  cell_any file (key.Version stamp) =
      head_any file (key.Version stamp)
      (head_at (content_of b file).heads (key.Version stamp)) refl

  module _ (wanted : Wanted) where
    -- WHATEVER A SERVER SENDS of its keys is of the histories of its files
    pub cells_carry : AllCarry us p N (cells_where b wanted)
    cells_carry = cells_all (Carries us p N) b cell_any wanted

    pub more_carry : (sent : List Sent) → AllCarry us p N sent
        → AllCarry us p N (sent ++ cells_where b wanted)
    more_carry sent h = All-append (CarriesSent us p N) sent (cells_where b wanted) h cells_carry
