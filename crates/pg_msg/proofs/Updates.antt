-- Updates as words: no two with the same words, and which bytes these lack.
use Rattle.std.proofs.Common.{rules, ℕ, true, false, ◌≡◌, ◌≢◌, ◌<◌, Bool, List, Option, None, Some, IfNone, ap, arith, codes}
use Rattle.std.specs.List.{AllByRecursion}
use Rattle.std.proofs.lemmas.Fmt.{decimal_injective}
use Rattle.pg_base.specs.Id.{Fits}
use Rattle.pg_base.specs.StampText.{stamp_text}
use Rattle.pg_base.specs.declared.id.FileId.{FileId}
use Rattle.pg_base.specs.declared.stamp.Stamp.{Stamp}
use Rattle.pg_base.proofs.Spellings.{spelling-same}
use Rattle.pg_patch.specs.declared.part.Part.{Part}
use Rattle.pg_patch.specs.Ranges.{RangesValue}
use Rattle.pg_msg.specs.declared.update.MadeVersion.{MadeVersion}
use Rattle.pg_msg.specs.declared.update.Update.{Update}
use Rattle.pg_msg.specs.declared.update.Update.TheVariants as update
use Rattle.pg_msg.specs.UpdateText.{flag_words, part_word, update_spelling, version_spelling, IsFlag, IsMadeVersion, IsPart, IsUpdate}
use Rattle.pg_msg.proofs.Parts.{ranges_fit, same_keep, same_parts, Lacks-keep, Lacks-part}
use Rattle.pg_register.specs.declared.flag.Flag.{Flag}
use Rattle.pg_register.specs.declared.place.Place.{Place}
use Rattle.pg_words.specs.ChoiceWord.{raised_word}
use Rattle.pg_words.specs.PlaceWords.{IsPlace}
use Rattle.pg_words.specs.StampWord.{IsStamp}
use Rattle.pg_words.proofs.Lacking.{Ends, literal, Lacks-decimal, Lacks-list, Lacks-server, Lacks-spelling, Lacks-stamp}
use Rattle.pg_words.proofs.Places.{place-lack, same_place}
use Rattle.pg_words.proofs.Splitting.{Lacks, behind, lead, word_at}
use Rattle.pg_words.proofs.Stamps.{same_file, same_server, same_stamp, same_stamps}

pub parts_fit : (u : MadeVersion) → IsMadeVersion u → AllByRecursion IsPart u.ranges.parts
parts_fit u is = ranges_fit u.ranges is.ranges is.bytes

version-lack : (c : ℕ) (u : MadeVersion) → Ends c → 44 ≢ c → IsMadeVersion u → AllByRecursion (Lacks c) (version_spelling u)
version-lack c u h ne fits =
    let low = h.low in (
      literal c (codes "version") (omega arith),
      (
        Lacks-spelling c u.file h fits.about.fits,
        (
          Lacks-stamp c u.stamp h fits.at,
          (
            literal c (codes "from") (omega arith),
            (
              Lacks-list stamp_text IsStamp c h ne (λ s f. Lacks-stamp c s h f) u.bases fits.from,
              (
                literal c (codes "keep") (omega arith),
                (
                  Lacks-keep c u.ranges.keep h fits.ranges.keep,
                  (
                    literal c (codes "least") (omega arith),
                    (
                      Lacks-server c u.ranges.least h fits.ranges.least,
                      (
                        literal c (codes "parts") (omega arith),
                        (Lacks-list part_word IsPart c h ne (λ p f. Lacks-part c p h f) u.ranges.parts (parts_fit u fits), tt),
                      ),
                    ),
                  ),
                ),
              ),
            ),
          ),
        ),
      ),
    )

Lacks-raised : (c : ℕ) (b : Bool) → Ends c → Lacks c (raised_word b)
Lacks-raised c true h = let low = h.low in literal c (codes "raised") (omega arith)
Lacks-raised c false h = let low = h.low in literal c (codes "lowered") (omega arith)

flag-lack : (c : ℕ) (f : Flag) → Ends c → IsFlag f → AllByRecursion (Lacks c) (flag_words f)
flag-lack c f h fits =
    (Lacks-server c f.server h fits.server, (Lacks-decimal c f.birth h fits.birth, (Lacks-decimal c f.number h fits.number, (Lacks-raised c f.raised h, tt))))

-- a name may have each byte that can be seen
pub update-lack : (c : ℕ) (u : Update) → Ends c → c < 33 → IsUpdate u → AllByRecursion (Lacks c) (update_spelling u)
update-lack c (update.Version made) h low fits = version-lack c made h (omega arith) fits
update-lack c (update.Place file place) h low fits =
    (literal c (codes "place") (omega arith), (Lacks-spelling c file h fits.0, place-lack c place low fits.1))
update-lack c (update.Flag file flag) h low fits =
    (literal c (codes "flag") (omega arith), (Lacks-spelling c file h fits.0, flag-lack c flag h fits.1))

ranges_of_parts : (k l : ℕ) (p : List Part) (m n : ℕ) (q : List Part) → k ≡ m → l ≡ n → p ≡ q
    → (let x : RangesValue = record { keep = k; least = l; parts = p } in let y : RangesValue = record { keep = m; least = n; parts = q } in x ≡ y)
ranges_of_parts k l p m n q e f g = cc

version_of_parts : (f : FileId) (s : Stamp) (b : List Stamp) (r : RangesValue) (g : FileId) (t : Stamp) (d : List Stamp) (q : RangesValue) → f ≡ g → s ≡ t → b ≡ d → r ≡ q
    → (let x : MadeVersion = record { file = f; stamp = s; bases = b; ranges = r } in let y : MadeVersion = record { file = g; stamp = t; bases = d; ranges = q } in x ≡ y)
version_of_parts f s b r g t d q e h i j = cc

same_version : (a b : MadeVersion) → IsMadeVersion a → IsMadeVersion b → version_spelling a ≡ version_spelling b → a ≡ b
same_version a b ha hb e =
    version_of_parts a.file a.stamp a.bases a.ranges b.file b.stamp b.bases b.ranges
    (same_file a.file b.file ha.about hb.about (ap (word_at 1) e))
    (same_stamp a.stamp b.stamp ha.at hb.at (ap (word_at 2) e))
    (same_stamps a.bases b.bases ha.from hb.from (ap (word_at 4) e))
    (ranges_of_parts a.ranges.keep a.ranges.least a.ranges.parts b.ranges.keep b.ranges.least b.ranges.parts
    (same_keep a.ranges.keep b.ranges.keep ha.ranges.keep hb.ranges.keep (ap (word_at 6) e))
    (same_server a.ranges.least b.ranges.least ha.ranges.least hb.ranges.least (ap (word_at 8) e))
    (same_parts a.ranges.parts b.ranges.parts (parts_fit a ha) (parts_fit b hb) (ap (word_at 10) e)))

same_raised : (a b : Bool) → raised_word a ≡ raised_word b → a ≡ b
same_raised = search rules

flag_of_parts : (s b n : ℕ) (r : Bool) (t c m : ℕ) (q : Bool) → s ≡ t → b ≡ c → n ≡ m → r ≡ q
    → (let x : Flag = record { server = s; birth = b; number = n; raised = r } in let y : Flag = record { server = t; birth = c; number = m; raised = q } in x ≡ y)
flag_of_parts s b n r t c m q e f g h = cc

same_flag : (a b : Flag) → IsFlag a → IsFlag b → flag_words a ≡ flag_words b → a ≡ b
same_flag a b ha hb e =
    flag_of_parts a.server a.birth a.number a.raised b.server b.birth b.number b.raised
    (same_server a.server b.server ha.server hb.server (ap (word_at 0) e))
    (decimal_injective a.birth b.birth ha.birth hb.birth (ap (word_at 1) e))
    (decimal_injective a.number b.number ha.number hb.number (ap (word_at 2) e))
    (same_raised a.raised b.raised (ap (word_at 3) e))

place_update : (f g : FileId) (p q : Place) → f ≡ g → p ≡ q → update.Place f p ≡ update.Place g q
place_update f g p q e h = cc

flag_update : (f g : FileId) (p q : Flag) → f ≡ g → p ≡ q → update.Flag f p ≡ update.Flag g q
flag_update f g p q e h = cc

-- the shapes differ in the first byte of their first word
pub same_update : (a b : Update) → IsUpdate a → IsUpdate b → update_spelling a ≡ update_spelling b → a ≡ b
same_update (update.Version a) (update.Version b) ha hb e = ap update.Version (same_version a b ha hb e)
same_update (update.Place f p) (update.Place g q) ha hb e =
    place_update f g p q (spelling-same f g ha.0 hb.0 (ap (word_at 1) e)) (same_place p q ha.1 hb.1 (ap (λ ws. behind (behind ws)) e))
same_update (update.Flag f p) (update.Flag g q) ha hb e =
    flag_update f g p q (spelling-same f g ha.0 hb.0 (ap (word_at 1) e)) (same_flag p q ha.1 hb.1 (ap (λ ws. behind (behind ws)) e))
same_update a b ha hb e = absurd (let h = ap lead e in omega arith)

none_of : (ws : List (List ℕ)) → ((m : MadeVersion) → IsMadeVersion m → ws ≡ version_spelling m → ⊥) → ((f : FileId) (flag : Flag) → Fits f → IsFlag flag → ws ≡ update_spelling (update.Flag f flag) → ⊥)
    → ((f : FileId) (p : Place) → Fits f → IsPlace p → ws ≡ update_spelling (update.Place f p) → ⊥) → (u : Update) → IsUpdate u → ws ≡ update_spelling u → ⊥
none_of ws hv hf hp (update.Version m) is e = hv m is e
none_of ws hv hf hp (update.Place f p) is e = hp f p is.0 is.1 e
none_of ws hv hf hp (update.Flag f flag) is e = hf f flag is.0 is.1 e

-- words of none of the three shapes
pub no_update : (ws : List (List ℕ)) (made : Option MadeVersion) (place : Option Update) → made ≡ None
    → IfNone made ((m : MadeVersion) → IsMadeVersion m → ws ≡ version_spelling m → ⊥)
    → ((f : FileId) (flag : Flag) → Fits f → IsFlag flag → ws ≡ update_spelling (update.Flag f flag) → ⊥)
    → IfNone place ((f : FileId) (p : Place) → Fits f → IsPlace p → ws ≡ update_spelling (update.Place f p) → ⊥)
    → IfNone place ((u : Update) → IsUpdate u → ws ≡ update_spelling u → ⊥)
no_update ws (Some m) place n hv hf hp = absurd (cc)
no_update ws None (Some p) n hv hf hp = hp
no_update ws None None n hv hf hp = none_of ws hv hf hp
