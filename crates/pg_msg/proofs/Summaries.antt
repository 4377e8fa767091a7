-- Summaries as words: no two with the same words, and which bytes these lack.
use Rattle.std.proofs.Common.{rules, ℕ, ◌≡◌, List, refl, sym, ap, ◌∙◌, subst, arith, codes}
use Rattle.std.specs.List.{AllByRecursion}
use Rattle.pg_base.specs.Id.{spelling}
use Rattle.pg_base.proofs.Spellings.{spelling-same}
use Rattle.pg_base.specs.declared.id.FileId.{FileId}
use Rattle.pg_msg.specs.declared.summary.Detail.{Detail}
use Rattle.pg_msg.specs.declared.summary.Detail.TheVariants as detail
use Rattle.pg_msg.specs.declared.summary.MessageKind.{MessageKind}
use Rattle.pg_msg.specs.declared.summary.Summary.{Summary}
use Rattle.pg_msg.specs.Text.{Sort, OfKey, OfStamp, OfChild, OfNothing, detail_text, kind_text, sort_of, summary_words, IsAbout, IsDetail, IsSummary}
use Rattle.pg_msg.proofs.Keys.{same_key, Lacks-key}
use Rattle.pg_msg.proofs.KindWords.{about_fits, same_kind, Lacks-kind}
use Rattle.pg_words.proofs.Lacking.{Ends, literal, Lacks-server, Lacks-spelling, Lacks-stamp}
use Rattle.pg_words.proofs.Splitting.{Lacks, word_at}
use Rattle.pg_words.proofs.Stamps.{same_server, same_stamp}

Lacks-detail : (c : ℕ) (t : Sort) (d : Detail) → Ends c → IsDetail t d → Lacks c (detail_text d)
Lacks-detail c OfKey (detail.Key k) h is = Lacks-key c k h is
Lacks-detail c OfStamp (detail.Stamp s) h is = Lacks-stamp c s h is
Lacks-detail c OfChild (detail.Child f) h is = Lacks-spelling c f h is
Lacks-detail c OfNothing detail.Nothing h is = let low = h.low in literal c (codes "-") (omega arith)
Lacks-detail c t d h is = absurd is

pub summary-lack : (c : ℕ) (s : Summary) → Ends c → IsSummary s → AllByRecursion (Lacks c) (summary_words s)
summary-lack c s h fits = (
  Lacks-server c s.from h fits.sender,
  (
    Lacks-server c s.to h fits.receiver,
    (
      Lacks-kind c s.kind h,
      (Lacks-spelling c s.file h (about_fits s.kind s.file fits.about), (Lacks-detail c (sort_of s.kind) s.detail h fits.told, tt)),
    ),
  ),
)

-- two details of one sort with one text are the same
same_detail : (t : Sort) (a b : Detail) → IsDetail t a → IsDetail t b → detail_text a ≡ detail_text b → a ≡ b
same_detail OfKey (detail.Key k) (detail.Key l) ha hb e = ap detail.Key (same_key k l ha hb e)
same_detail OfStamp (detail.Stamp s) (detail.Stamp t) ha hb e = ap detail.Stamp (same_stamp s t ha hb e)
same_detail OfChild (detail.Child f) (detail.Child g) ha hb e = ap detail.Child (spelling-same f g ha hb e)
same_detail OfNothing detail.Nothing detail.Nothing ha hb e = refl
same_detail t a b ha hb e = absurd (search rules)

summary_of_parts : (a b : ℕ) (k : MessageKind) (f : FileId) (y : Detail) (c d : ℕ) (l : MessageKind) (g : FileId) (z : Detail) → a ≡ c → b ≡ d → k ≡ l → f ≡ g → y ≡ z
    → (let s : Summary = record { from = a; to = b; kind = k; file = f; detail = y } in let t : Summary = record { from = c; to = d; kind = l; file = g; detail = z } in s ≡ t)
summary_of_parts a b k f y c d l g z p q r s t = cc

pub same_summary : (a b : Summary) → IsSummary a → IsSummary b → summary_words a ≡ summary_words b → a ≡ b
same_summary a b ha hb e =
    let kinds = same_kind a.kind b.kind (ap (word_at 2) e) in
    let P : MessageKind → Type 0 = λ k. IsDetail (sort_of k) b.detail in
    summary_of_parts a.from a.to a.kind a.file a.detail b.from b.to b.kind b.file b.detail
    (same_server a.from b.from ha.sender hb.sender (ap (word_at 0) e))
    (same_server a.to b.to ha.receiver hb.receiver (ap (word_at 1) e))
    kinds
    (spelling-same a.file b.file (about_fits a.kind a.file ha.about) (about_fits b.kind b.file hb.about) (ap (word_at 3) e))
    (same_detail (sort_of a.kind) a.detail b.detail ha.told (subst P (sym kinds) hb.told) (ap (word_at 4) e))

-- where no file that is told of with this kind has this word, and where no detail has
pub no_about : (k : MessageKind) (name word : List ℕ) → name ≡ kind_text k → ((f : FileId) → IsAbout k f → word ≡ spelling f → ⊥)
    → (s : Summary) → IsSummary s → name ≡ kind_text s.kind → word ≡ spelling s.file → ⊥
no_about k name word n none s fits e f =
    let P : MessageKind → Type 0 = λ l. IsAbout l s.file in
    none s.file (subst P (same_kind s.kind k (sym e ∙ n)) fits.about) f

pub no_detail : (k : MessageKind) (name word : List ℕ) → name ≡ kind_text k → ((d : Detail) → IsDetail (sort_of k) d → word ≡ detail_text d → ⊥)
    → (s : Summary) → IsSummary s → name ≡ kind_text s.kind → word ≡ detail_text s.detail → ⊥
no_detail k name word n none s fits e f =
    let P : MessageKind → Type 0 = λ l. IsDetail (sort_of l) s.detail in
    none s.detail (subst P (same_kind s.kind k (sym e ∙ n)) fits.told) f
