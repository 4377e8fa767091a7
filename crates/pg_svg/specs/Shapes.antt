-- The parts of the picture as SVG.
use Rattle.std.specs.Prelude.{ℕ, ◌+◌, ◌-◌, ◌*◌, Bool, true, false, List, [], ◌∷◌, ◌++◌, codes, decimal, if◌then◌else◌, nat_lt}
use Rattle.pg_msg.specs.declared.summary.Summary.{Summary}
use Rattle.pg_picture.specs.declared.mark.Leg.{Leg}
use Rattle.pg_picture.specs.declared.mark.LegEnd.{LegEnd}
use Rattle.pg_picture.specs.declared.mark.LegEnd.TheVariants as ending
use Rattle.pg_picture.specs.declared.mark.Mark.{Mark}
use Rattle.pg_picture.specs.declared.mark.MarkKind.{MarkKind}
use Rattle.pg_picture.specs.declared.mark.MarkKind.TheVariants as kind
use Rattle.pg_picture.specs.declared.mark.Note.{Note}
use Rattle.pg_svg.specs.Escaped.{escaped}
use Rattle.pg_svg.specs.Label.{label_len, label_text}
use Rattle.pg_svg.specs.Scale.{leg_end, leg_start, x_of, y_of}
use Rattle.pg_svg.specs.declared.scale.Scale.{Scale}

abbrev pub end_word : LegEnd → List ℕ
end_word ending.Delivered = codes "delivered"
end_word ending.Lost = codes "lost"
end_word ending.Fallen = codes "lost"
end_word ending.Copied = codes "copied"
end_word ending.UnderWay = codes "under-way"

abbrev pub kind_word : MarkKind → List ℕ
kind_word kind.Call = codes "call"
kind_word kind.Refused = codes "refused"
kind_word kind.Tick = codes "tick"
kind_word kind.Deliver = codes "deliver"
kind_word kind.Lose = codes "lose"
kind_word kind.Repeat = codes "repeat"
kind_word kind.Restart = codes "restart"
kind_word kind.Remove = codes "remove"
kind_word kind.Void = codes "void"
kind_word kind.Asked = codes "asked"

-- a piece of a message's way: a line whose end has the sign of its kind
unfoldable pub leg_text : ℕ → Leg → List ℕ
leg_text half leg =
    codes "<path class=\"" ++ (end_word leg.end
    ++ (codes "\" d=\"M" ++ (decimal (leg_start half leg)
    ++ (codes " " ++ (decimal (y_of leg.message.since)
    ++ (codes "L" ++ (decimal (leg_end half leg)
    ++ (codes " " ++ (decimal (y_of leg.until) ++ codes "\"/>\n")))))))))

unfoldable pub text_end : List ℕ
text_end = codes "</text>\n"

-- a label stands on white, behind the column as seen from where the message comes: to the left
unfoldable pub left_back : ℕ → ℕ → ℕ → List ℕ
left_back x y width =
    codes "<path class=\"back\" d=\"M" ++ (decimal x
    ++ (codes " " ++ (decimal y
    ++ (codes "m-6-2h-" ++
    (decimal width ++ (codes "v-11h" ++ (decimal width ++ codes "z\"/>")))))))

unfoldable pub left_front : ℕ → ℕ → List ℕ
left_front x y =
    codes "<text class=\"left\" dx=\"-8\" dy=\"-4\" x=\"" ++ (decimal x
    ++ (codes "\" y=\"" ++ (decimal y ++ codes "\">")))

unfoldable pub left_label : ℕ → ℕ → ℕ → List ℕ → List ℕ
left_label x y width text =
    left_back x y width ++ (left_front x y ++ (escaped text ++ text_end))

-- and to the right
unfoldable pub right_back : ℕ → ℕ → ℕ → List ℕ
right_back x y width =
    codes "<path class=\"back\" d=\"M" ++ (decimal x
    ++ (codes " " ++ (decimal y
    ++ (codes "m6-2h" ++ (decimal width ++ (codes "v-11h-" ++ (decimal width ++ codes "z\"/>")))))))

unfoldable pub right_front : ℕ → ℕ → List ℕ
right_front x y =
    codes "<text dx=\"8\" dy=\"-4\" x=\"" ++ (decimal x
    ++ (codes "\" y=\"" ++ (decimal y ++ codes "\">")))

unfoldable pub right_label : ℕ → ℕ → ℕ → List ℕ → List ℕ
right_label x y width text =
    right_back x y width ++ (right_front x y ++ (escaped text ++ text_end))

abbrev pub label_at : ℕ → ℕ → Summary → List ℕ
label_at x y s =
    if nat_lt s.to s.from then left_label x y (6 * label_len s + 4) (label_text s)
    else right_label x y (6 * label_len s + 4) (label_text s)

-- the label of a piece of a way: where the message goes on it has none
abbrev pub end_label : ℕ → Leg → LegEnd → List ℕ
end_label half leg ending.Copied = []
end_label half leg _ = label_at (leg_end half leg) (y_of leg.until) leg.message.summary

unfoldable pub leg_label : ℕ → Leg → List ℕ
leg_label half leg = end_label half leg leg.end

unfoldable pub mark_text : ℕ → Mark → List ℕ
mark_text half mark =
    codes "<use href=\"#" ++ (kind_word mark.kind
    ++ (codes "\" x=\"" ++ (decimal (x_of half mark.server)
    ++ (codes "\" y=\"" ++ (decimal (y_of mark.height) ++ codes "\"/>\n")))))

-- the row of an event: the number of its line in the schedule, and a thin line to its note
unfoldable pub row_number : Mark → List ℕ
row_number mark =
    codes "<text class=\"left\" dy=\"3\" x=\"42\" y=\"" ++ (decimal (y_of mark.height)
    ++ (codes "\">" ++ (decimal mark.line ++ codes "</text>")))

unfoldable pub row_line : ℕ → ℕ → List ℕ
row_line notes y =
    codes "<path class=\"row\" d=\"M46 " ++ (decimal y
    ++ (codes "H" ++ (decimal notes ++ codes "\"/>\n")))

unfoldable pub row_text : ℕ → Mark → List ℕ
row_text notes mark = row_number mark ++ row_line notes (y_of mark.height)

abbrev pub note_word : Bool → List ℕ
note_word true = codes "refused"
note_word false = codes "told"

unfoldable pub note_front : List ℕ → ℕ → ℕ → List ℕ
note_front word notes y =
    codes "<text dx=\"6\" dy=\"3\" class=\"" ++ (word
    ++ (codes "\" x=\"" ++ (decimal notes ++ (codes "\" y=\"" ++ (decimal y ++ codes "\">")))))

unfoldable pub note_text : ℕ → Note → List ℕ
note_text notes note =
    note_front (note_word note.refused) notes (y_of note.height) ++ (escaped note.text ++ text_end)

-- a server's line, with its name above
unfoldable pub server_name : ℕ → ℕ → List ℕ
server_name x server =
    codes "<text class=\"middle\" y=\"118\" x=\"" ++ (decimal x
    ++ (codes "\">server " ++ (decimal server ++ codes "</text>")))

unfoldable pub server_line : ℕ → ℕ → List ℕ
server_line x height =
    codes "<path class=\"server\" d=\"M" ++ (decimal x
    ++ (codes " 122V" ++ (decimal height ++ codes "\"/>\n")))

unfoldable pub server_text : Scale → ℕ → List ℕ
server_text scale server =
    server_name (x_of scale.half server) server ++ server_line (x_of scale.half server) scale.height
