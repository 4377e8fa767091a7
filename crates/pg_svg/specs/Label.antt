-- What is written at a message's way.
use Rattle.std.specs.Prelude.{ℕ, List, [], ◌∷◌, ◌++◌, codes, length, max, min}
use Rattle.pg_base.specs.Id.{spelling}
use Rattle.pg_msg.specs.Text.{kind_text, detail_text}
use Rattle.pg_msg.specs.declared.summary.Summary.{Summary}
use Rattle.pg_picture.specs.declared.mark.Leg.{Leg}
use Rattle.pg_picture.specs.declared.mark.Note.{Note}

-- a message's kind, its file and the detail
abbrev pub label_text : Summary → List ℕ
label_text s = kind_text s.kind ++
    (codes " " ++ (spelling s.file ++ (codes " " ++ detail_text s.detail)))

-- how many signs of it are counted
abbrev pub label_len : Summary → ℕ
label_len s = min (length (label_text s)) 90

-- the most of this number and of the labels'
abbrev pub widest_label : ℕ → List Leg → ℕ
widest_label least [] = least
widest_label least (leg ∷ legs) = widest_label (max least (label_len leg.message.summary)) legs

abbrev pub note_len : Note → ℕ
note_len note = min (length note.text) 140

abbrev pub widest_note : ℕ → List Note → ℕ
widest_note least [] = least
widest_note least (note ∷ notes) = widest_note (max least (note_len note)) notes
