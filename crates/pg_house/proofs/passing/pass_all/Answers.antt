use Rattle.std.proofs.Common.{rules, ◌≡◌, ap, sym, ◌∙◌, drop, ◌+◌, List}
use Rattle.std.proofs.lemmas.List.{at_drop_more}
use Rattle.pg_base.specs.declared.id.FileId.{FileId}
use Rattle.pg_names.specs.Names.{directories}
use Rattle.pg_house.specs.Work.{State, state_of}
use Rattle.pg_house.specs.Passing.{pass, pass_all}
use Rattle.pg_house.proofs.Keys.{pass_dirs}
use Rattle.pg_house.proofs.passing.pass_all.Goals as goal

-- one thing passes, where the directories are these
one_more : (st t : State) (ds es : List FileId) (f : FileId) → t ≡ pass st es f → es ≡ ds → t ≡ pass st ds f
one_more st t ds es f h same = h ∙ ap (λ xs. pass st xs f) same

same_dirs : (st t : State) (ds : List FileId) (f : FileId) → t ≡ pass st ds f → directories st.names ≡ ds → directories t.names ≡ ds
same_dirs st t ds f one dirs = ap (λ (u : State). directories u.names) one ∙ pass_dirs st ds f ∙ dirs

pub loop-file-preserved : goal.loop-file-preserved
loop-file-preserved c =
    let ds = directories c.args.names.now in
    let fs = c.args.files.now in
    let i = c.loop-file.file-index in
    let st : State = state_of c.loop-file.names c.loop-file.work in
    let t : State = state_of c.pass.new.names c.pass.new.work in
    let one = one_more st t ds (directories c.loop-file.names) _ c.in_ok-pass.ensures c.loop-file.invariant.1 in (
      ap (λ (u : State). pass_all u ds (drop (i + 1) fs)) one ∙ sym (at_drop_more (pass_all st ds) fs i _ (search rules)) ∙ c.loop-file.invariant.0,
      same_dirs st t ds _ one c.loop-file.invariant.1,
    )
