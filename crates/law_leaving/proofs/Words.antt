-- Who says what a message says, and which message says it.
use Rattle.std.proofs.Common.{ℕ, ◌≡◌, Bool, true, false, cond, refl, ap, subst, ◌∙◌}
use Rattle.pg_run.specs.pg_base.declared.id.FileId.{FileId}
use Rattle.pg_run.specs.pg_base.declared.stamp.Stamp.{Stamp}
use Rattle.pg_run.specs.pg_base.Id.{is_same_file}
use Rattle.pg_run.proofs.pg_base.Orders.{is_same_file-refl, is_same_file-true}
use Rattle.theory_leaving.specs.Protocol.{Word}
use Rattle.theory_leaving.specs.Protocol.Word.{Gone, Bye, ByeOk, LeaveOk, Other}
use Rattle.pg_run.specs.pg_msg.declared.message.Ends.{Ends}
use Rattle.pg_run.specs.pg_msg.declared.message.Message.{Message}
use Rattle.pg_run.specs.pg_msg.declared.message.Message.TheVariants as message
use Rattle.pg_run.proofs.theory_flood_pieces.Choices.{decided}
use Rattle.law_leaving.specs.Seen.{if_of, word_of}

-- the server that a word names first
abbrev pub speaker : ℕ → Word → ℕ
speaker other (Gone sender birth) = sender
speaker other (Bye sender birth) = sender
speaker other (ByeOk sender peer birth) = sender
speaker other (LeaveOk sender birth peer own) = sender
speaker other Other = other

-- and the birth of its replica that gives leave
abbrev pub giver : Word → ℕ
giver (LeaveOk sender birth peer own) = birth
giver _ = 0

spoken_if : (from : ℕ) (word : Word) → speaker from word ≡ from → (t : Bool) → speaker from (cond t word Other) ≡ from
spoken_if from word same true = same
spoken_if from word same false = refl

-- is the sender
pub speaks : (file : FileId) (from to : ℕ) (m : Message) → speaker from (word_of file from to m) ≡ from
speaks file from to (message.Gone f birth) = spoken_if from (Gone from birth) refl (is_same_file f file)
speaks file from to (message.Bye ends) = spoken_if from (Bye from ends.sender) refl (is_same_file ends.file file)
speaks file from to (message.ByeOk f birth) = spoken_if from (ByeOk from to birth) refl (is_same_file f file)
speaks file from to (message.LeaveOk ends stamp) =
    spoken_if from (LeaveOk from ends.sender to ends.receiver) refl (is_same_file ends.file file)
speaks file from to _ = refl

-- ---- back from words

-- which message from one server to another says this
abbrev pub IsSaying : FileId → ℕ → ℕ → Message → Word → Type 0
IsSaying file from to m (Gone sender birth) = (from ≡ sender) × (m ≡ message.Gone file birth)
IsSaying file from to m (Bye sender birth) =
    (from ≡ sender) × (ends : Ends) × (m ≡ message.Bye ends) × (ends.file ≡ file) × (ends.sender ≡ birth)
IsSaying file from to m (ByeOk sender peer birth) = (from ≡ sender) × (to ≡ peer) × (m ≡ message.ByeOk file birth)
IsSaying file from to m (LeaveOk sender birth peer own) = Unit {0}
IsSaying file from to m Other = Unit {0}

pub said_by : (file : FileId) (from to : ℕ) (m : Message) → IsSaying file from to m (word_of file from to m)
said_by file from to (message.Gone f birth) =
    decided (IsSaying file from to (message.Gone f birth)) (is_same_file f file) (Gone from birth) Other
    (λ same. (refl, ap (λ (g : FileId). message.Gone g birth) (is_same_file-true f file same))) (λ other. tt)
said_by file from to (message.Bye ends) =
    decided (IsSaying file from to (message.Bye ends)) (is_same_file ends.file file) (Bye from ends.sender) Other
    (λ same. (refl, ends, refl, is_same_file-true ends.file file same, refl)) (λ other. tt)
said_by file from to (message.ByeOk f birth) =
    decided (IsSaying file from to (message.ByeOk f birth)) (is_same_file f file) (ByeOk from to birth) Other
    (λ same. (refl, refl, ap (λ (g : FileId). message.ByeOk g birth) (is_same_file-true f file same))) (λ other. tt)
said_by file from to (message.LeaveOk ends stamp) =
    decided (IsSaying file from to (message.LeaveOk ends stamp)) (is_same_file ends.file file) (LeaveOk from ends.sender to ends.receiver) Other
    (λ same. tt) (λ other. tt)
said_by file from to _ = tt

pub said : (file : FileId) (from to : ℕ) (m : Message) (word : Word) → word_of file from to m ≡ word → IsSaying file from to m word
said file from to m word is = subst (IsSaying file from to m) is (said_by file from to m)

-- ---- forth to words

pub bye_says : (file : FileId) (from to : ℕ) (m : Message) (ends : Ends) → m ≡ message.Bye ends → ends.file ≡ file
    → word_of file from to m ≡ Bye from ends.sender
bye_says file from to m ends is of =
    ap (word_of file from to) is
    ∙ ap (λ (f : FileId). if_of file f (Bye from ends.sender)) of
    ∙ ap (λ t. cond t (Bye from ends.sender) Other) (is_same_file-refl file)

pub bye_ok_says : (file : FileId) (from to : ℕ) (m : Message) (birth : ℕ) → m ≡ message.ByeOk file birth
    → word_of file from to m ≡ ByeOk from to birth
bye_ok_says file from to m birth is =
    ap (word_of file from to) is ∙ ap (λ t. cond t (ByeOk from to birth) Other) (is_same_file-refl file)

pub gone_says : (file : FileId) (from to : ℕ) (m : Message) (birth : ℕ) → m ≡ message.Gone file birth
    → word_of file from to m ≡ Gone from birth
gone_says file from to m birth is =
    ap (word_of file from to) is ∙ ap (λ t. cond t (Gone from birth) Other) (is_same_file-refl file)

pub leave_ok_says : (file : FileId) (from to : ℕ) (m : Message) (ends : Ends) (stamp : Stamp) → m ≡ message.LeaveOk ends stamp → ends.file ≡ file
    → word_of file from to m ≡ LeaveOk from ends.sender to ends.receiver
leave_ok_says file from to m ends stamp is of =
    ap (word_of file from to) is
    ∙ ap (λ (f : FileId). if_of file f (LeaveOk from ends.sender to ends.receiver)) of
    ∙ ap (λ t. cond t (LeaveOk from ends.sender to ends.receiver) Other) (is_same_file-refl file)
