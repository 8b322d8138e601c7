use Rattle.std.proofs.Common.{◌≡◌, ◌++◌, take, sym, ◌∙◌, ap}
use Rattle.std.specs.Char.{encode_utf8}
use Rattle.bvd_text.proofs.Places.{step}
use Rattle.bvd_text.proofs.cursor.Cursor.bump.Goals as goal

pub invariant_of-self : goal.invariant_of-self
invariant_of-self c =
    let left : c.self.inside.rest.now ≡ encode_utf8 c.in-Some.next ++ c.in-Some.rest.now = c.in-Some.ensures in
    let s = step c.self.inside.text.now c.self.inside.rest.now c.in-Some.rest.now c.self.inside.at c.in-Some.next c.self.inside.place c.self.invariant left in
    rw (c.len_utf8.ensures.value, c.past-self-inside.ensures) s.stands

pub returns-in-Some : goal.returns-in-Some
returns-in-Some c =
    let left : c.self.inside.rest.now ≡ encode_utf8 c.in-Some.next ++ c.in-Some.rest.now = c.in-Some.ensures in
    let s = step c.self.inside.text.now c.self.inside.rest.now c.in-Some.rest.now c.self.inside.at c.in-Some.next c.self.inside.place c.self.invariant left in
    let behind : take c.self.inside.at c.self.inside.text.now ≡ c.args.self.now.before = ap (λ r. r.before) c.self.view_is in
    let ahead : c.self.inside.rest.now ≡ c.args.self.now.rest = ap (λ r. r.rest) c.self.view_is in
    let length_is = c.len_utf8.ensures.value in
    record { read = rw length_is (s.read ∙ ap (λ bs. bs ++ encode_utf8 c.in-Some.next) behind); left = sym ahead ∙ left }
