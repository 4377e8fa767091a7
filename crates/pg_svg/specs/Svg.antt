-- The whole picture as SVG.
use Rattle.std.specs.Prelude.{ℕ, List, [], ◌∷◌, ◌++◌, codes, decimal, zero, suc}
use Rattle.std.specs.List.{flat_map}
use Rattle.pg_picture.specs.declared.mark.Leg.{Leg}
use Rattle.pg_picture.specs.declared.mark.Mark.{Mark}
use Rattle.pg_picture.specs.declared.mark.Note.{Note}
use Rattle.pg_picture.specs.declared.sketch.Sketch.{Sketch}
use Rattle.pg_svg.specs.Scale.{scale_of}
use Rattle.pg_svg.specs.Shapes.{leg_label, leg_text, mark_text, note_text, row_text, server_text}
use Rattle.pg_svg.specs.declared.scale.Scale.{Scale}
use Rattle.pg_svg.specs.declared.svg.TheConstants.{HEAD, LEGEND}

-- how large the picture is
unfoldable pub open_text : Scale → List ℕ
open_text scale =
    codes "<svg xmlns=\"http://www.w3.org/2000/svg\" width=\"" ++ (decimal scale.width
    ++ (codes "\" height=\"" ++ (decimal scale.height
    ++ (codes "\" viewBox=\"0 0 " ++ (decimal scale.width
    ++ (codes " " ++ (decimal scale.height ++ codes "\">\n")))))))

-- how things look
unfoldable pub style_text : List ℕ
style_text = HEAD.now

-- all is drawn on white
unfoldable pub paper_text : Scale → List ℕ
paper_text scale =
    codes "<path class=\"back\" d=\"M0 0H" ++ (decimal scale.width
    ++ (codes "V" ++ (decimal scale.height ++ codes "H0z\"/>\n")))

-- what the signs stand for
unfoldable pub legend_text : List ℕ
legend_text = LEGEND.now

unfoldable pub head_text : Scale → List ℕ
head_text scale = open_text scale ++ (style_text ++ (paper_text scale ++ legend_text))

unfoldable pub close_text : List ℕ
close_text = codes "</svg>\n"

abbrev pub rows_text : ℕ → List Mark → List ℕ
rows_text notes marks = flat_map (row_text notes) marks

-- the lines of the first servers
abbrev pub servers_text : Scale → ℕ → List ℕ
servers_text scale zero = []
servers_text scale (suc k) = servers_text scale k ++ server_text scale (suc k)

abbrev pub legs_text : ℕ → List Leg → List ℕ
legs_text half legs = flat_map (leg_text half) legs

abbrev pub labels_text : ℕ → List Leg → List ℕ
labels_text half legs = flat_map (leg_label half) legs

abbrev pub marks_text : ℕ → List Mark → List ℕ
marks_text half marks = flat_map (mark_text half) marks

abbrev pub notes_text : ℕ → List Note → List ℕ
notes_text x notes = flat_map (note_text x) notes

-- rows, the servers' lines and the ways of messages; and above them what is read
unfoldable pub lines_text : Scale → Sketch → List ℕ
lines_text scale s =
    rows_text scale.notes s.marks ++ (servers_text scale s.servers ++ legs_text scale.half s.legs)

unfoldable pub signs_text : Scale → Sketch → List ℕ
signs_text scale s =
    labels_text scale.half s.legs ++
    (marks_text scale.half s.marks ++ notes_text scale.notes s.notes)

abbrev pub svg_of : Scale → Sketch → List ℕ
svg_of scale s = head_text scale ++ (lines_text scale s ++ (signs_text scale s ++ close_text))

abbrev pub svg_text : Sketch → List ℕ
svg_text s = svg_of (scale_of s) s
