use Rattle.std.proofs.Common.{rules, ◌≡◌, ◌∷◌, None, length}
use Rattle.std.specs.List.{slice_get}
use Rattle.std.specs.Option.{option_copied}
use Rattle.pg_picture.specs.Course.{after, lack_of}
use Rattle.pg_picture.specs.Picture.{draw}
use Rattle.pg_picture.specs.Sketch.{drawn}
use Rattle.pg_picture.proofs.Steps.{room_on, same_on, whole_on}
use Rattle.pg_picture.proofs.picture.draw.Goals as goal

pub loop-line-preserved : goal.loop-line-preserved
loop-line-preserved c =
    let all = c.args.journal.now in
    let line = c.in-Some.line.now in
    let rest = c.loop-line.rest.now in
    let behind = c.in-Some.behind.now in
    let s = c.loop-line.sketch in
    let next = option_copied c.first-next.result in
    let cut : rest ≡ line ∷ behind = search rules in
    let first : next ≡ slice_get behind 0 = search rules in
    let none : lack_of c.loop-line.course s.bag line next ≡ None = search rules in
    let new : c.take.new.self ≡ drawn s line next = search rules in
    let course : c.after-course.result ≡ after c.loop-line.course line = search rules in
    record {
      whole = whole_on (length all) line rest behind cut c.loop-line.invariant.whole;
      room = room_on (length all) s c.take.new.self line rest behind next cut new c.loop-line.invariant.room;
      same = same_on (length all) (draw all) c.loop-line.course c.after-course.result s c.take.new.self line rest behind
          next cut first none new course c.loop-line.invariant.whole c.loop-line.invariant.same;
    }
