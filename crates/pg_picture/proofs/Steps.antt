-- One line more of a journal that is drawn, and where the drawing ends.
use Rattle.std.proofs.Common.{ℕ, ◌≡◌, ◌+◌, ◌-◌, ◌*◌, ◌≤◌, true, false, List, [], ◌∷◌, Option, None, Some, length, suc, ap, sym, ◌∙◌, arith, subst, if◌then◌else◌}
use Rattle.std.specs.List.{slice_get}
use Rattle.pg_picture.specs.Course.{after, lack_of}
use Rattle.pg_picture.specs.Part.{is_ended}
use Rattle.pg_picture.specs.Picture.{Drawing, draw_from, hung, or_lack}
use Rattle.pg_picture.specs.Picture.Drawing.{Drawn, Lacking}
use Rattle.pg_picture.specs.Sketch.{bag_after, drawn, height_after}
use Rattle.pg_picture.specs.declared.course.Course.{Course}
use Rattle.pg_picture.specs.declared.lack.Lack.{Lack}
use Rattle.pg_picture.specs.declared.lack.Lack.TheVariants as lack
use Rattle.pg_picture.specs.declared.sketch.Sketch.{Sketch}
use Rattle.pg_trace.specs.declared.journal_line.JournalLine.{JournalLine}
use Rattle.pg_picture.proofs.Bounds.{room_most}

-- a line that lacks nothing is drawn
pub goes_on_by : (n : ℕ) (c : Course) (s : Sketch) (p : JournalLine) (rest : List JournalLine)
    → lack_of c s.bag p (slice_get rest 0) ≡ None
    → draw_from n c s (p ∷ rest) ≡ draw_from (n + 1) (after c p) (drawn s p (slice_get rest 0)) rest
goes_on_by n c s p rest none =
    ap (λ o. or_lack o n (draw_from (n + 1) (after c p) (drawn s p (slice_get rest 0)) rest)) none

-- a line that lacks something ends the drawing
pub stops_by : (n : ℕ) (c : Course) (s : Sketch) (p : JournalLine) (rest : List JournalLine) (l : Lack)
    → lack_of c s.bag p (slice_get rest 0) ≡ Some l
    → draw_from n c s (p ∷ rest) ≡ Lacking n l
stops_by n c s p rest l found =
    ap (λ o. or_lack o n (draw_from (n + 1) (after c p) (drawn s p (slice_get rest 0)) rest)) found

pub ends_by : (n : ℕ) (c : Course) (s : Sketch) → is_ended c.before ≡ true
    → draw_from n c s [] ≡ Drawn (hung s)
ends_by n c s over = ap (λ t. if t then Drawn (hung s) else Lacking n lack.End) over

pub lacks_end : (n : ℕ) (c : Course) (s : Sketch) → is_ended c.before ≡ false
    → draw_from n c s [] ≡ Lacking n lack.End
lacks_end n c s over = ap (λ t. if t then Drawn (hung s) else Lacking n lack.End) over

-- ---- with the journal, of which this is left

-- how many lines are left, behind one
pub one_less : (rest behind : List JournalLine) (line : JournalLine) → rest ≡ line ∷ behind
    → length rest ≡ length behind + 1
one_less rest behind line cut = let e : length rest ≡ suc (length behind) = ap length cut in omega arith

number_on : (all left behind : ℕ) → left ≡ behind + 1 → left ≤ all → all - behind + 1 ≡ all - left + 1 + 1
number_on all left behind one within = omega arith

pub same_on : (all : ℕ) (whole : Drawing) (c d : Course) (s z : Sketch) (line : JournalLine)
    (rest behind : List JournalLine) (next : Option JournalLine)
    → rest ≡ line ∷ behind → next ≡ slice_get behind 0 → lack_of c s.bag line next ≡ None
    → z ≡ drawn s line next → d ≡ after c line → length rest ≤ all
    → draw_from (all - length rest + 1) c s rest ≡ whole
    → draw_from (all - length behind + 1) d z behind ≡ whole
same_on all whole c d s z line rest behind next cut first none new course within same =
    let n = all - length rest + 1 in
    ap (λ k. draw_from k d z behind)
    (number_on all (length rest) (length behind) (one_less rest behind line cut) within)
    ∙ ap (λ k. draw_from (n + 1) k z behind) course
    ∙ ap (λ k. draw_from (n + 1) (after c line) k behind) (new ∙ ap (λ o. drawn s line o) first)
    ∙ sym (goes_on_by n c s line behind (subst (λ o. lack_of c s.bag line o ≡ None) first none))
    ∙ ap (λ k. draw_from n c s k) (sym cut)
    ∙ same

pub room_on : (all : ℕ) (s z : Sketch) (line : JournalLine) (rest behind : List JournalLine)
    (next : Option JournalLine) → rest ≡ line ∷ behind → z ≡ drawn s line next
    → s.height + length s.bag + 3 * length rest ≤ 3 * all
    → z.height + length z.bag + 3 * length behind ≤ 3 * all
room_on all s z line rest behind next cut new within =
    let one = one_less rest behind line cut in
    let high : z.height ≡ height_after s line next = ap (λ (k : Sketch). k.height) new in
    let many : length z.bag ≡ length (bag_after s line next) = ap (λ (k : Sketch). length k.bag) new in
    let most = room_most s line next in
    omega arith

pub whole_on : (all : ℕ) (line : JournalLine) (rest behind : List JournalLine) → rest ≡ line ∷ behind
    → length rest ≤ all → length behind ≤ all
whole_on all line rest behind cut within =
    let one = one_less rest behind line cut in omega arith
