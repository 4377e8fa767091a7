use Rattle.std.proofs.Common.{◌≡◌, ◌++◌, ◌+◌, ◌-◌, ap, sym, ◌∙◌, arith, length, take, drop, min}
use Rattle.std.proofs.lemmas.List.{take_rest}
use Rattle.pg_content.specs.Content.{bodies_of}
use Rattle.pg_content.proofs.Bodies.{bodies_at, bodies_past, view_step, taken_all}
use Rattle.pg_content.proofs.content.Content.view.Goals as goal

pub loop-version-preserved : goal.loop-version-preserved
loop-version-preserved c =
    let vs = c.shown_versions-version-items.result.now in
    let i = c.loop-version.version-index in
    let v = c.version-item.result in
    let b = c.as_slice-body.result.now in
    let start = c.min-start.result in
    let n = c.min.result in
    let skip = c.loop-version.skip in
    let left = c.loop-version.left in
    let rest : take (length c.as_slice-body.result.now - c.min-start.result) (drop c.min-start.result c.as_slice-body.result.now) ≡ drop c.min-start.result c.as_slice-body.result.now = take_rest c.as_slice-body.result.now c.min-start.result in
    let whole = bodies_at vs i v c.loop-version-test.true c.version-item.is ∙ ap (λ xs. xs ++ bodies_of (drop (i + 1) vs)) (sym (c.as_slice-body.ensures ∙ c.body.ensures.body)) in
    view_step c.loop-version.out.items c.extend_from_slice.new.self.items b (bodies_of (drop (i + 1) vs)) (take n (take (length b - start) (drop start b))) (bodies_of (drop i vs)) skip start left n
    (omega (arith, c.min-start.ensures)) (c.min.ensures ∙ ap (λ xs. min left (length xs)) rest) (ap (take n) rest) c.in_ok-extend_from_slice.ensures.items whole
    ∙ c.loop-version.invariant

pub returns : goal.returns
returns c =
    let vs = c.shown_versions-version-items.result.now in
    let i = c.loop-version.version-index in
    let skip = c.loop-version.skip in
    let left = c.loop-version.left in
    c.from_vec.ensures ∙ sym (taken_all c.loop-version.out.items (bodies_of (drop i vs)) left skip (bodies_past vs i c.loop-version-test.false))
    ∙ c.loop-version.invariant ∙ ap (λ xs. take c.args.count (drop c.args.offset xs)) c.shown_versions-version-items.ensures
