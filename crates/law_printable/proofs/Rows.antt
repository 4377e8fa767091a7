-- The names that a directory shows are components of paths, wherever the ids of its children fit.
use Rattle.std.proofs.Common.{ℕ, ◌≡◌, ◌≤◌, ◌<◌, ◌+◌, ◌^◌, ◌++◌, List, [], ◌∷◌, Option, None, Some, All, length, take, drop, decimal, refl, sym, subst, arith, inl, inr}
use Rattle.std.specs.Int.{IsInRange}
use Rattle.std.specs.List.{filter}
use Rattle.std.specs.Map.{values_of}
use Rattle.std.specs.Ordering.{is_lt}
use Rattle.std.specs.Prelude.{map}
use Rattle.std.proofs.lemmas.Fmt.{digits_decimal, length-decimal-le}
use Rattle.std.proofs.lemmas.List.{length-append, length-take}
use Rattle.std.proofs.lemmas.List.Elements.{All-append, All-cons, All-drop, All-head, All-nil, All-tail, All-take, All-weaker, recursion_from_All}
use Rattle.std.specs.Str.Parse.{AllDigits}
use Rattle.std.proofs.lemmas.Str.Parse.{tells_digits}
use Rattle.law_frame.specs.pg_run.pg_base.declared.id.FileId.{FileId}
use Rattle.law_frame.specs.pg_run.pg_base.declared.id.Kind.{Kind}
use Rattle.law_frame.specs.pg_run.pg_base.declared.id.Kind.TheVariants.{Dir, File}
use Rattle.law_frame.specs.pg_run.pg_base.Id.{Fits, letter, spelling}
use Rattle.law_frame.proofs.pg_run.pg_base.Numerals.{own}
use Rattle.law_frame.specs.pg_run.pg_path.Name.{IsComponentByte, IsNameByte}
use Rattle.law_frame.specs.pg_run.pg_path.Path.{IsComponent}
use Rattle.law_frame.specs.pg_run.pg_path.declared.row.Row.{Row}
use Rattle.law_frame.specs.pg_run.pg_register.Place.{tilde_name}
use Rattle.law_frame.specs.pg_run.pg_entries.declared.entry.Entry.{Entry}
use Rattle.law_frame.specs.pg_run.pg_entries.Entry.{is_listed}
use Rattle.law_frame.specs.pg_run.pg_entries.Shown.{insert_row, is_hidden, row_cmp, row_of, rows_in_order, rows_of}
use Rattle.law_frame.specs.pg_run.pg_names.Names.{InodeValue, NamesValue, known}
use Rattle.law_frame.proofs.pg_run.pg_house.Truths.{chosen}
use Rattle.law_frame.specs.pg_run.pg_calls.Looks.{listing, page}
use Rattle.pg_trace.specs.Suited.{IsCallAnswer, SuitsRow}
use Rattle.law_printable.proofs.Places.{IsThingName, NamesSuit, SuitEntries, SuitsEntry}

few_rows : (n : ℕ) (rows : List Row) → length (take n rows) ≤ n
few_rows n rows = omega (arith, length-take n rows)

-- ---- names made of ids

digit_byte : (c : ℕ) → IsInRange 48 57 c → IsComponentByte c
digit_byte c h = record { least = omega arith; most = omega arith; no_slash = λ e. omega arith }

digit_bytes : (ds : List ℕ) → AllDigits 10 ds → All IsComponentByte ds
digit_bytes [] h = All-nil IsComponentByte
digit_bytes (c ∷ cs) h =
    let p = tells_digits.parts c cs h in
    All-cons IsComponentByte c cs (digit_byte c p.0) (digit_bytes cs p.1)

number_bytes : (n : ℕ) → n < 2 ^ 64 → All IsComponentByte (decimal n)
number_bytes n lt = digit_bytes (decimal n) (digits_decimal own n lt)

tilde_byte : IsComponentByte 126
tilde_byte = record { least = omega arith; most = omega arith; no_slash = λ e. omega arith }

dot_byte : IsComponentByte 46
dot_byte = record { least = omega arith; most = omega arith; no_slash = λ e. omega arith }

letter_byte : (k : Kind) → IsComponentByte (letter k)
letter_byte Dir = record { least = omega arith; most = omega arith; no_slash = λ e. omega arith }
letter_byte File = record { least = omega arith; most = omega arith; no_slash = λ e. omega arith }

-- bytes of components, at most so many
record IsPiece (most : ℕ) (text : List ℕ) : Type 0 where
  few : length text ≤ most
  each : All IsComponentByte text

tilde_piece : (f : FileId) → Fits f → IsPiece 33 (tilde_name f)
tilde_piece f fits =
    let s = fits.server in
    let n = fits.number in
    let a : length (decimal f.server) ≤ 10 = length-decimal-le 10 f.server (omega arith) (omega arith) (omega arith) in
    let b : length (decimal f.number) ≤ 20 = length-decimal-le 20 f.number (omega arith) (omega arith) n in
    let c = length-append (decimal f.server) (46 ∷ decimal f.number) in
    record {
      few = omega arith;
      each = All-cons IsComponentByte 126 (spelling f) tilde_byte
          (All-cons IsComponentByte (letter f.kind) (decimal f.server ++ 46 ∷ decimal f.number) (letter_byte f.kind)
          (All-append IsComponentByte (decimal f.server) (46 ∷ decimal f.number) (number_bytes f.server (omega arith))
          (All-cons IsComponentByte 46 (decimal f.number) dot_byte (number_bytes f.number n))));
    }

-- ---- names of things

record IsSmall (text : List ℕ) : Type 0 where
  some : 1 ≤ length text
  piece : IsPiece 255 text

name_small : (f : FileId) (name : List ℕ) → Fits f → IsThingName f name → IsSmall name
name_small f name fits (inl h) = record {
  some = h.some;
  piece = record {
    few = h.most;
    each = All-weaker IsNameByte IsComponentByte (λ b k. record { least = k.least; most = k.most; no_slash = k.no_slash }) name h.each;
  };
}
name_small f name fits (inr e) =
    let t = tilde_piece f fits in
    let few = t.few in
    subst IsSmall (sym e) (record { some = omega arith; piece = record { few = omega arith; each = t.each } })

small_component : (name : List ℕ) → IsSmall name → IsComponent name
small_component name h =
    let few = h.piece.few in
    record { some = h.some; most = omega arith; each = h.piece.each }

with_id : (f : FileId) (name : List ℕ) → Fits f → IsSmall name → IsComponent (name ++ tilde_name f)
with_id f name fits h =
    let t = tilde_piece f fits in
    let few = t.few in
    let some = h.some in
    let most = h.piece.few in
    let both = length-append name (tilde_name f) in
    record { some = omega arith; most = omega arith; each = All-append IsComponentByte name (tilde_name f) h.piece.each t.each }

-- ---- rows

row_suits : (es : List (FileId × Entry)) (dir : FileId) (e : Entry) → SuitsEntry e.child e → SuitsRow (row_of es dir e)
row_suits es dir e h fits =
    let small = name_small e.child e.place.name fits h.place.name in
    chosen IsComponent (is_hidden es dir e) (e.place.name ++ tilde_name e.child) e.place.name (with_id e.child e.place.name fits small)
    (small_component e.place.name small)

abbrev OwnEntry : Entry → Type 0
OwnEntry e = SuitsEntry e.child e

own_entries : (es : List (FileId × Entry)) → SuitEntries es → All OwnEntry (values_of es)
own_entries [] h = All-nil OwnEntry
own_entries (e ∷ es) h =
    let P : FileId × Entry → Type 0 = (λ (x : FileId × Entry). SuitsEntry x.0 x.1) in
    let here : SuitsEntry e.0 e.1 = All-head P e es h in
    All-cons OwnEntry e.1 (values_of es) (subst (λ (k : FileId). SuitsEntry k e.1) (sym here.child) here) (own_entries es (All-tail P e es h))

kept_rows : (es : List (FileId × Entry)) (dir : FileId) (xs : List Entry) → All OwnEntry xs → All SuitsRow (map (row_of es dir) (filter (is_listed dir) xs))
kept_rows es dir [] h = All-nil SuitsRow
kept_rows es dir (x ∷ xs) h =
    let rest = kept_rows es dir xs (All-tail OwnEntry x xs h) in
    let row = row_of es dir in
    chosen (λ (ys : List Entry). All SuitsRow (map row ys)) (is_listed dir x) (x ∷ filter (is_listed dir) xs) (filter (is_listed dir) xs)
    (All-cons SuitsRow (row x) (map row (filter (is_listed dir) xs)) (row_suits es dir x (All-head OwnEntry x xs h)) rest) rest

one_more : (rows : List Row) (row : Row) → SuitsRow row → All SuitsRow rows → All SuitsRow (insert_row rows row)
one_more [] row k h = All-cons SuitsRow row [] k (All-nil SuitsRow)
one_more (held ∷ rows) row k h =
    let first : SuitsRow held = All-head SuitsRow held rows h in
    chosen (All SuitsRow) (is_lt (row_cmp held row)) (held ∷ insert_row rows row) (row ∷ held ∷ rows)
    (All-cons SuitsRow held (insert_row rows row) first (one_more rows row k (All-tail SuitsRow held rows h)))
    (All-cons SuitsRow row (held ∷ rows) k h)

in_order : (rows : List Row) → All SuitsRow rows → All SuitsRow (rows_in_order rows)
in_order [] h = All-nil SuitsRow
in_order (row ∷ rows) h = one_more (rows_in_order rows) row (All-head SuitsRow row rows h) (in_order rows (All-tail SuitsRow row rows h))

listing_by : (s : NamesValue) (dir : FileId) (o : Option InodeValue) → NamesSuit s → known s dir ≡ o → All SuitsRow (listing dir o)
listing_by s dir None h e = All-nil SuitsRow
listing_by s dir (Some x) h e =
    in_order (rows_of x.entries dir) (kept_rows x.entries dir (values_of x.entries) (own_entries x.entries (h dir x e).entries))

-- a page of the names that a directory shows
pub page_suits : (s : NamesValue) (dir : FileId) (from : ℕ) → NamesSuit s → IsCallAnswer (page (listing dir (known s dir)) from)
page_suits s dir from h =
    let rows = listing dir (known s dir) in (
      few_rows 100 (drop from rows),
      recursion_from_All SuitsRow (take 100 (drop from rows)) (All-take SuitsRow 100 (drop from rows)
          (All-drop SuitsRow from rows (listing_by s dir (known s dir) h refl))),
    )
