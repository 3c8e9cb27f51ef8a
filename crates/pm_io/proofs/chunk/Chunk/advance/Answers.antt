use Rattle.std.proofs.Common.{◌≡◌, List, ℕ, ◌+◌, ◌-◌, ◌≤◌, length, take, drop, arith, sym, ◌∙◌, ap}
use Rattle.std.proofs.lemmas.List.{drop-take, drop-drop, length-take}
use Rattle.pm_io.proofs.chunk.Chunk.advance.Goals as goal

-- what is left of a part after its first n
advanced : (start end n : ℕ) (bytes : List ℕ) → n ≤ end - start → take (end - (start + n)) (drop (start + n) bytes) ≡ drop n (take (end - start) (drop start bytes))
advanced start end n bytes within =
    let len : end - start ≡ n + (end - (start + n)) = omega arith in
    sym (ap (λ k. drop n (take k (drop start bytes))) len ∙ drop-take n (end - (start + n)) (drop start bytes) ∙ ap (take (end - (start + n))) (drop-drop n start bytes))

pub returns : goal.returns
returns c =
    let inside = c.self.inside in
    let within : c.args.count ≤ inside.end - inside.start = omega (arith, length-take (inside.end - inside.start) (drop inside.start inside.bytes), ap length c.self.view_is) in
    advanced inside.start inside.end c.args.count inside.bytes within ∙ ap (drop c.args.count) c.self.view_is
