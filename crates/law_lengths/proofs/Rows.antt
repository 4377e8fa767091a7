-- The names that a directory shows are short.
use Rattle.std.proofs.Common.{ℕ, ◌≡◌, ◌≤◌, ◌++◌, List, [], ◌∷◌, Option, None, Some, All, length, take, drop, refl, sym, subst, arith}
use Rattle.std.specs.List.{AllByRecursion, filter}
use Rattle.std.specs.Map.{values_of}
use Rattle.std.specs.Ordering.{is_lt}
use Rattle.std.specs.Prelude.{map}
use Rattle.std.proofs.lemmas.List.{length-append, length-take}
use Rattle.std.proofs.lemmas.List.Elements.{All-cons, All-drop, All-head, All-nil, All-tail, All-take, recursion_from_All}
use Rattle.pg_base.specs.declared.id.FileId.{FileId}
use Rattle.pg_base.specs.Id.{Fits}
use Rattle.pg_server.specs.pg_calls.Looks.{listing, page}
use Rattle.pg_entries.specs.declared.entry.Entry.{Entry}
use Rattle.pg_entries.specs.Entry.{is_listed}
use Rattle.pg_entries.specs.Shown.{insert_row, is_hidden, row_cmp, row_of, rows_in_order, rows_of}
use Rattle.pg_server.proofs.pg_pieces.pg_house.Truths.{chosen}
use Rattle.pg_server.specs.pg_pieces.pg_names.Names.{InodeValue, NamesValue, known}
use Rattle.pg_packet_write.proofs.Lengths.{name_short}
use Rattle.pg_packet_write.specs.Calls.{FitsText}
use Rattle.pg_path.specs.declared.row.Row.{Row}
use Rattle.pg_register.specs.Place.{IsPlaceName, tilde_name}
use Rattle.pg_words.proofs.WordBytes.{spelling_word}
use Rattle.law_spelled.specs.Stores.{FitEntries, FitsListed, FitsNames}
use Rattle.law_lengths.proofs.Replies.{IsShortRow, IsTold}

-- ---- one name

-- an entry's name has a spelling wherever the id of its child is one
abbrev ShowsShort : Entry → Type 0
ShowsShort e = Fits e.child → IsPlaceName e.place.name

-- a shown name is short wherever the id of its child is one
abbrev IsShownShort : Row → Type 0
IsShownShort row = Fits row.child → IsShortRow row

row_short : (es : List (FileId × Entry)) (dir : FileId) (e : Entry) → ShowsShort e → IsShownShort (row_of es dir e)
row_short es dir e h fits =
    let name = name_short e.place.name (h fits) in
    let id = (spelling_word e.child fits).few in
    let long = length-append e.place.name (tilde_name e.child) in
    chosen (λ (text : List ℕ). length text ≤ 298) (is_hidden es dir e) (e.place.name ++ tilde_name e.child) e.place.name
    (omega (arith, name, id, long)) (omega (arith, name))

-- ---- a page of names

own_entries : (es : List (FileId × Entry)) → FitEntries es → All ShowsShort (values_of es)
own_entries [] h = All-nil ShowsShort
own_entries (e ∷ es) h =
    let P : FileId × Entry → Type 0 = (λ (x : FileId × Entry). FitsListed x.0 x.1) in
    let here : FitsListed e.0 e.1 = All-head P e es h in
    All-cons ShowsShort e.1 (values_of es)
    (subst (λ (k : FileId). Fits k → IsPlaceName e.1.place.name) (sym here.child) here.place.name)
    (own_entries es (All-tail P e es h))

kept_rows : (es : List (FileId × Entry)) (dir : FileId) (xs : List Entry) → All ShowsShort xs
    → All IsShownShort (map (row_of es dir) (filter (is_listed dir) xs))
kept_rows es dir [] h = All-nil IsShownShort
kept_rows es dir (x ∷ xs) h =
    let rest = kept_rows es dir xs (All-tail ShowsShort x xs h) in
    let row = row_of es dir in
    chosen (λ (ys : List Entry). All IsShownShort (map row ys)) (is_listed dir x) (x ∷ filter (is_listed dir) xs) (filter (is_listed dir) xs)
    (All-cons IsShownShort (row x) (map row (filter (is_listed dir) xs)) (row_short es dir x (All-head ShowsShort x xs h)) rest) rest

one_more : (rows : List Row) (row : Row) → IsShownShort row → All IsShownShort rows → All IsShownShort (insert_row rows row)
one_more [] row k h = All-cons IsShownShort row [] k (All-nil IsShownShort)
one_more (held ∷ rows) row k h =
    let first : IsShownShort held = All-head IsShownShort held rows h in
    chosen (All IsShownShort) (is_lt (row_cmp held row)) (held ∷ insert_row rows row) (row ∷ held ∷ rows)
    (All-cons IsShownShort held (insert_row rows row) first (one_more rows row k (All-tail IsShownShort held rows h)))
    (All-cons IsShownShort row (held ∷ rows) k h)

in_order : (rows : List Row) → All IsShownShort rows → All IsShownShort (rows_in_order rows)
in_order [] h = All-nil IsShownShort
in_order (row ∷ rows) h =
    one_more (rows_in_order rows) row (All-head IsShownShort row rows h) (in_order rows (All-tail IsShownShort row rows h))

listing_by : (names : NamesValue) (dir : FileId) (o : Option InodeValue) → FitsNames names → known names dir ≡ o
    → All IsShownShort (listing dir o)
listing_by names dir None h e = All-nil IsShownShort
listing_by names dir (Some x) h e =
    in_order (rows_of x.entries dir)
    (kept_rows x.entries dir (values_of x.entries) (own_entries x.entries (h.held dir x e).entries))

short_rows : (rows : List Row) → AllByRecursion IsShownShort rows → AllByRecursion (λ (row : Row). Fits row.child) rows
    → AllByRecursion IsShortRow rows
short_rows [] h k = tt
short_rows (row ∷ rows) h k = (h.0 k.0, short_rows rows h.1 k.1)

fit_rows : (rows : List Row) → AllByRecursion IsShortRow rows → AllByRecursion (λ (row : Row). FitsText row.name) rows
fit_rows [] h = tt
fit_rows (row ∷ rows) h = let short = h.0 in (omega (arith, short), fit_rows rows h.1)

-- a page of the names that a directory shows
pub page_told : (names : NamesValue) (dir : FileId) (from : ℕ) → FitsNames names
    → IsTold (page (listing dir (known names dir)) from)
page_told names dir from h widths =
    let rows = listing dir (known names dir) in
    let shown = drop from rows in
    let all : All IsShownShort (take 100 shown) =
    All-take IsShownShort 100 shown (All-drop IsShownShort from rows (listing_by names dir (known names dir) h refl)) in
    let short = short_rows (take 100 shown) (recursion_from_All IsShownShort (take 100 shown) all) widths in
    record {
      spelled = record { few = omega (arith, length-take 100 shown); each = fit_rows (take 100 shown) short };
      names = short;
    }
