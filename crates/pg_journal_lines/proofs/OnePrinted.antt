-- No two lines of a journal have one spelling.
use Rattle.std.proofs.Common.{rules, ℕ, ◌≡◌, ◌≢◌, ◌<◌, ◌^◌, ◌+◌, ◌*◌, List, [], ◌∷◌, ◌++◌, cond, eqb, Bool, length, subst, refl, sym, ap, ◌∙◌, arith, codes, decimal}
use Rattle.std.specs.List.{slice_split, join_with_byte}
use Rattle.std.proofs.lemmas.List.{append_cancel_left}
use Rattle.std.proofs.lemmas.Fmt.{decimal_injective}
use Rattle.pg_base.specs.declared.id.FileId.{FileId}
use Rattle.pg_base.specs.declared.id.Kind.{Kind}
use Rattle.pg_base.specs.declared.id.Kind.TheVariants.{Dir, File}
use Rattle.pg_base.proofs.Parts.{cut_same, not_cut}
use Rattle.pg_base.proofs.Spellings.{spelling-same}
use Rattle.pg_call.proofs.CallTable.{same_kind}
use Rattle.pg_event.specs.Meter.{meter_word}
use Rattle.pg_event.specs.declared.meter.MeterKind.{MeterKind}
use Rattle.pg_event.proofs.Quiets.{same_quiet}
use Rattle.pg_event.proofs.Voids.{same_void}
use Rattle.pg_msg.proofs.Summaries.{same_summary}
use Rattle.pg_msg.proofs.Updates.{same_update}
use Rattle.pg_register.specs.declared.place.Place.{Place}
use Rattle.pg_journal_lines.proofs.ReplyLacks.{tick_reply}
use Rattle.pg_journal_lines.proofs.ReplySpelling.{one_reply, same_gold}
use Rattle.pg_sched.specs.declared.line.Line.{Line}
use Rattle.pg_sched.specs.Line.{line_body, IsLine}
use Rattle.pg_sched.proofs.OneLine.{one_line}
use Rattle.pg_trace.specs.declared.journal_line.AskedAt.{AskedAt}
use Rattle.pg_trace.specs.declared.journal_line.AskedAt.TheVariants as word
use Rattle.pg_trace.specs.declared.journal_line.JournalLine.{JournalLine}
use Rattle.pg_trace.specs.declared.journal_line.JournalLine.TheVariants.{Event, Call, Tick, Void, Made, Sent, Asked, Replica, Nowhere, Meter}
use Rattle.pg_trace.specs.declared.replica.ShownContent.{ShownContent}
use Rattle.pg_trace.specs.declared.replica.ShownContent.TheVariants as contents
use Rattle.pg_trace.specs.declared.replica.ShownReplica.{ShownReplica}
use Rattle.pg_trace.specs.JournalLine.{contents_words, printed_body, IsContents, IsPrinted, IsReplica}
use Rattle.pg_journal_lines.specs.declared.verb.Verb.{Verb}
use Rattle.pg_journal_lines.specs.declared.verb.Verb.TheVariants as verb
use Rattle.pg_journal_lines.specs.Reading.{verb_word, verb_of, words_behind}
use Rattle.pg_journal_lines.proofs.Lacking.{Lacks-verb}
use Rattle.pg_journal_lines.proofs.PrintedWords.{spelled, event_body, words-again}
use Rattle.pg_words.specs.ChoiceWord.{full_word, gold_word}
use Rattle.pg_words.proofs.HexWords.{one_hex_word}
use Rattle.pg_words.proofs.Places.{same_place}
use Rattle.pg_words.proofs.Lacking.{space, Lacks-decimal}
use Rattle.pg_words.proofs.Splitting.{Lacks, behind, word_at}
use Rattle.pg_words.proofs.Stamps.{same_server, same_stamps}

-- what tells one verb from another: its first three bytes
abbrev mark : List ℕ → ℕ
mark [] = 0
mark (a ∷ []) = 0
mark (a ∷ b ∷ []) = 0
mark (a ∷ b ∷ c ∷ rest) = a * 65536 + b * 256 + c

abbrev verb_at : ℕ → Verb
verb_at m =
    cond (eqb m 6649445) verb.Event
    (cond (eqb m 6513004) verb.Call
    (cond (eqb m 7629155) verb.Tick
    (cond (eqb m 7761769) verb.Void
    (cond (eqb m 7168356) verb.Made
    (cond (eqb m 7562606) verb.Sent
    (cond (eqb m 7562612) (verb.Asked word.Settle)
    (cond (eqb m 7435625) (verb.Asked word.Quiet)
    (cond (eqb m 6647396) (verb.Asked word.End)
    (cond (eqb m 7169396) verb.Meter verb.At)))))))))

known : (v : Verb) → verb_at (mark (verb_word v)) ≡ v
known (verb.Asked word.Settle) = refl
known v = refl

pub one_verb : (v w : Verb) → verb_word v ≡ verb_word w → v ≡ w
one_verb v w e = sym (known v) ∙ ap (λ t. verb_at (mark t)) e ∙ known w

-- what stands before the first space is the first word
first_cut : (word : List ℕ) (words : List (List ℕ)) (a rest : List ℕ) → Lacks 32 word → Lacks 32 a → join_with_byte 32 (word ∷ words) ≡ a ++ 32 ∷ rest → word ≡ a
first_cut word [] a rest h ha e = absurd (not_cut 32 word a rest h e)
first_cut word (next ∷ words) a rest h ha e = (cut_same 32 word (join_with_byte 32 (next ∷ words)) a rest h ha e).0

-- only an event's text begins as one
pub event_only : (p : JournalLine) (rest : List ℕ) → printed_body p ≡ codes "event" ++ 32 ∷ rest → verb_of p ≡ verb.Event
event_only p rest e =
    one_verb (verb_of p) verb.Event
    (first_cut (verb_word (verb_of p)) (words_behind p) (codes "event") rest (Lacks-verb 32 (verb_of p) space) (Lacks-verb 32 verb.Event space) (ap (join_with_byte 32) (sym (spelled p)) ∙ e))

same_contents : (k : Kind) (x y : ShownContent) → IsContents k x → IsContents k y → contents_words x ≡ contents_words y → x ≡ y
same_contents File (contents.File s n b) (contents.File t m d) hx hy e =
    let heads = same_stamps s t hx.0 hy.0 (ap (word_at 1) e) in
    let count = decimal_injective n m hx.1 hy.1 (ap (word_at 3) e) in
    let front = one_hex_word b d hx.2.each hy.2.each (ap (word_at 4) e) in
    cc
same_contents Dir (contents.Dir n) (contents.Dir m) hx hy e = ap contents.Dir (decimal_injective n m hx hy (ap (word_at 1) e))
same_contents File (contents.Dir n) y hx hy e = absurd hx
same_contents Dir (contents.File s n b) y hx hy e = absurd hx
same_contents File (contents.File s n b) (contents.Dir m) hx hy e = absurd hy
same_contents Dir (contents.Dir n) (contents.File t m d) hx hy e = absurd hy

same_full : (a b : Bool) → full_word a ≡ full_word b → a ≡ b
same_full = search rules

same_meter : (a b : MeterKind) → meter_word a ≡ meter_word b → a ≡ b
same_meter = search rules

replica_of_parts : (s t : ℕ) (f g : FileId) (a b c d : Bool) (p q : Place) (x y : ShownContent) → s ≡ t → f ≡ g → a ≡ b → c ≡ d → p ≡ q → x ≡ y
    → (let r : ShownReplica = record { server = s; id = f; gold = a; full = c; place = p; contents = x } in let u : ShownReplica = record { server = t; id = g; gold = b; full = d; place = q; contents = y } in r ≡ u)
replica_of_parts s t f g a b c d p q x y es ef ea ec ep ex = cc

abbrev place_at : List (List ℕ) → List (List ℕ)
place_at ws = word_at 5 ws ∷ word_at 6 ws ∷ word_at 7 ws ∷ word_at 8 ws ∷ []

abbrev behind_place : List (List ℕ) → List (List ℕ)
behind_place ws = behind (behind (behind (behind (behind (behind (behind (behind (behind ws))))))))

same_replica : (a b : ShownReplica) → IsReplica a → IsReplica b → words_behind (Replica a) ≡ words_behind (Replica b) → a ≡ b
same_replica a b ha hb e =
    let same_id : a.id ≡ b.id = spelling-same a.id b.id ha.id_fits hb.id_fits (ap (word_at 1) e) in
    let P : FileId → Type 0 = λ f. IsContents f.kind b.contents in
    replica_of_parts a.server b.server a.id b.id a.gold b.gold a.full b.full a.place b.place a.contents b.contents
    (same_server a.server b.server ha.server hb.server (ap (word_at 0) e))
    same_id
    (same_gold a.gold b.gold (ap (word_at 2) e))
    (same_full a.full b.full (ap (word_at 3) e))
    (same_place a.place b.place ha.place hb.place (ap place_at e))
    (same_contents a.id.kind a.contents b.contents ha.contents_fit (subst P (sym same_id) hb.contents_fit) (ap behind_place e))

-- lines of one verb with the same words behind it are one
same_behind : (x y : JournalLine) → IsPrinted x → IsPrinted y → verb_of x ≢ verb.Event → verb_of x ≡ verb_of y → words_behind x ≡ words_behind y → x ≡ y
same_behind (Event n what) y hx hy other v e = absurd (other refl)
same_behind (Call a n r) (Call b k s) hx hy other v e =
    let server = same_server n k hx.0 hy.0 (ap (word_at 0) e) in
    let kind = same_kind a b (ap (word_at 1) e) in
    let reply = one_reply r s hx.1 hy.1 (ap (λ ws. behind (behind (behind ws))) e) in
    cc
same_behind (Tick n r) (Tick k s) hx hy other v e =
    let server = same_server n k hx.0 hy.0 (ap (word_at 0) e) in
    let reply = one_reply r s (tick_reply r hx.1) (tick_reply s hy.1) (ap (λ ws. behind (behind ws)) e) in
    cc
same_behind (Void n a) (Void k b) hx hy other v e =
    let line = decimal_injective n k hx hy (ap (word_at 0) e) in
    let why = same_void a b (ap (word_at 1) e) in
    cc
same_behind (Made a) (Made b) hx hy other v e = ap Made (same_update a b hx hy e)
same_behind (Sent a) (Sent b) hx hy other v e = ap Sent (same_summary a b hx hy e)
same_behind (Asked a q) (Asked b r) hx hy other v e =
    let quiet = same_quiet q r hx hy e in
    let asked : a ≡ b = cc in
    cc
same_behind (Replica a) (Replica b) hx hy other v e = ap Replica (same_replica a b hx hy e)
same_behind (Nowhere f) (Nowhere g) hx hy other v e = ap Nowhere (spelling-same f g hx hy (ap (word_at 1) e))
same_behind (Replica r) (Nowhere g) hx hy other v e = absurd (let h = ap length e in omega arith)
same_behind (Nowhere g) (Replica r) hx hy other v e = absurd (let h = ap length e in omega arith)
same_behind (Meter a n) (Meter b m) hx hy other v e =
    let kind = same_meter a b (ap (word_at 0) e) in
    let value = decimal_injective n m hx hy (ap (word_at 1) e) in
    cc
same_behind x y hx hy other v e = absurd (cc)

same_other : (x y : JournalLine) → IsPrinted x → IsPrinted y → verb_of x ≢ verb.Event → verb_of y ≢ verb.Event → printed_body x ≡ printed_body y → x ≡ y
same_other x y hx hy ox oy e =
    let words = sym (words-again x hx ox) ∙ ap (slice_split (λ b. eqb b 32)) e ∙ words-again y hy oy in
    let both = sym (spelled x) ∙ words ∙ spelled y in
    same_behind x y hx hy ox (one_verb (verb_of x) (verb_of y) (ap (word_at 0) both)) (ap behind both)

same_event : (n k : ℕ) (x y : Line) → n < 2 ^ 64 → k < 2 ^ 64 → IsLine x → IsLine y → printed_body (Event n x) ≡ printed_body (Event k y) → Event n x ≡ Event k y
same_event n k x y ln lk hx hy e =
    let same = append_cancel_left (codes "event ") (decimal n ++ 32 ∷ line_body x) (decimal k ++ 32 ∷ line_body y) (sym (event_body n x) ∙ e ∙ event_body k y) in
    let cut = cut_same 32 (decimal n) (line_body x) (decimal k) (line_body y) (Lacks-decimal 32 n space ln) (Lacks-decimal 32 k space lk) same in
    let number = decimal_injective n k ln lk cut.0 in
    let line = one_line x y hx hy cut.1 in
    cc

pub one_printed : (x y : JournalLine) → IsPrinted x → IsPrinted y → printed_body x ≡ printed_body y → x ≡ y
one_printed (Event n a) (Event k b) hx hy e = same_event n k a b hx.0 hy.0 hx.1 hy.1 e
one_printed (Event n a) y hx hy e = absurd (let h = event_only y (decimal n ++ 32 ∷ line_body a) (sym e ∙ event_body n a) in cc)
one_printed x (Event k b) hx hy e = absurd (let h = event_only x (decimal k ++ 32 ∷ line_body b) (e ∙ event_body k b) in cc)
one_printed x y hx hy e = same_other x y hx hy (λ q. cc) (λ q. cc) e
