use Rattle.std.proofs.Common.{◌≡◌, ◌∷◌, [], None, Some, length, refl, ap, ◌∙◌, arith}
use Rattle.json.specs.Json.{after_end_array, read_key}
use Rattle.json.specs.Reads.{token_of}
use Rattle.json.proofs.Grammar.{value_is, read_key-shorter}
use Rattle.serde_json.specs.Data.{no_members}
use Rattle.ecr_json.specs.Passing.{passed}
use Rattle.ecr_json.proofs.PassingLemmas.{passed-begin_array, passed-begin_object, passed-deep_array, passed-deep_object, passed-number, passed-empty, passed-shorter, PassesItems-more, PassesItems-refused, PassesItems-over, PassesMembers-more, PassesMembers-refused, PassesMembers-no_key, PassesMembers-over}
use Rattle.ecr_json.proofs.skip.+skip.Goals as goal

pub pass-returns-in-String : goal.pass-returns-in-String
pass-returns-in-String t c = rw (value_is c.args.depth (token_of c.args.token ∷ c.args.reader.now)) (grind arith)

pub pass-returns-in-Number : goal.pass-returns-in-Number
pass-returns-in-Number t c =
    let o = c.number_of.result in
    let is = ap (λ k. token_of k ∷ c.args.reader.now) c.in-Number.is in
    rw (is, c.is_some.ensures)
    (passed-number c.args.depth c.in-Number.text.now c.args.reader.now o c.number_of.ensures)

pub pass-returns-then-depth-gt0 : goal.pass-returns-then-depth-gt0
pass-returns-then-depth-gt0 t c =
    let is = ap (λ k. passed c.args.depth (token_of k ∷ c.args.reader.now)) c.in-BeginArray.is
    ∙ passed-begin_array c.args.depth c.args.reader.now (omega arith) in
    rw is c.skip_items.ensures

pub pass-returns-else-depth-gt0 : goal.pass-returns-else-depth-gt0
pass-returns-else-depth-gt0 t c =
    let is = ap (λ k. token_of k ∷ c.args.reader.now) c.in-BeginArray.is in
    rw is (passed-deep_array c.args.depth c.args.reader.now c.args.reader.now c.if-depth-gt0.false)

pub pass-returns-then-depth-gt0-2 : goal.pass-returns-then-depth-gt0-2
pass-returns-then-depth-gt0-2 t c =
    let is = ap (λ k. passed c.args.depth (token_of k ∷ c.args.reader.now)) c.in-BeginObject.is
    ∙ passed-begin_object c.args.depth c.args.reader.now (omega arith) in
    rw is c.skip_members.ensures

pub pass-returns-else-depth-gt0-2 : goal.pass-returns-else-depth-gt0-2
pass-returns-else-depth-gt0-2 t c =
    let is = ap (λ k. token_of k ∷ c.args.reader.now) c.in-BeginObject.is in
    rw is (passed-deep_object c.args.depth c.args.reader.now c.args.reader.now c.if-depth-gt0-2.false)

pub pass-returns-in-EndObject : goal.pass-returns-in-EndObject
pass-returns-in-EndObject t c = rw (value_is c.args.depth (token_of c.args.token ∷ c.args.reader.now)) (grind arith)

pub skip-returns-in-None : goal.skip-returns-in-None
skip-returns-in-None t c =
    let empty : c.args.reader.now ≡ [] = grind arith in
    rw empty (passed-empty c.args.depth)

pub skip_items-returns-then-not-skip : goal.skip_items-returns-then-not-skip
skip_items-returns-then-not-skip t c =
    let going : (after_end_array c.items.reader ≡ None) × (c.take_end_array.new.self ≡ c.items.reader) = grind arith in
    let wrong : passed c.args.depth c.take_end_array.new.self ≡ None = grind arith in
    PassesItems-refused c.args.depth c.args.reader.now c.items.reader c.items.invariant going.0 (rw (← going.1) wrong)

pub skip_items-items-smaller : goal.skip_items-items-smaller
skip_items-items-smaller t c =
    let going : (after_end_array c.items.reader ≡ None) × (c.take_end_array.new.self ≡ c.items.reader) = grind arith in
    let right : passed c.args.depth c.take_end_array.new.self ≡ Some c.skip.new.reader = grind arith in
    passed-shorter c.args.depth c.items.reader c.skip.new.reader (rw (← going.1) right)

pub skip_items-items-preserved : goal.skip_items-items-preserved
skip_items-items-preserved t c =
    let going : (after_end_array c.items.reader ≡ None) × (c.take_end_array.new.self ≡ c.items.reader) = grind arith in
    let right : passed c.args.depth c.take_end_array.new.self ≡ Some c.skip.new.reader = grind arith in
    PassesItems-more c.args.depth c.args.reader.now c.items.reader c.skip.new.reader c.items.invariant going.0
    (rw (← going.1) right)

pub skip_items-returns : goal.skip_items-returns
skip_items-returns t c = PassesItems-over c.args.depth c.args.reader.now c.items.reader c.take_end_array.new.self
    c.items.invariant (grind arith)

pub skip_members-members-init : goal.skip_members-members-init
skip_members-members-init t c =
    record { turns = length c.args.reader.now; found = no_members; enough = omega arith; same = refl }

pub skip_members-returns-then-not-skip : goal.skip_members-returns-then-not-skip
skip_members-returns-then-not-skip t c =
    let s = c.next_key.new.self in
    let name = c.in-Ok-Some.field-0-0.now in
    let key : read_key c.members.reader ≡ Some (Some name, s) = grind arith in
    let wrong : passed c.args.depth s ≡ None = grind arith in
    PassesMembers-refused c.args.depth c.args.reader.now c.members.reader name s c.members.invariant key wrong

pub skip_members-members-smaller : goal.skip_members-members-smaller
skip_members-members-smaller t c =
    let s = c.next_key.new.self in
    let name = c.in-Ok-Some.field-0-0.now in
    let key : read_key c.members.reader ≡ Some (Some name, s) = grind arith in
    let right : passed c.args.depth s ≡ Some c.skip.new.reader = grind arith in
    omega (
      arith,
      read_key-shorter c.members.reader
          (Some name) s key,
      passed-shorter c.args.depth s c.skip.new.reader right,
    )

pub skip_members-members-preserved : goal.skip_members-members-preserved
skip_members-members-preserved t c =
    let s = c.next_key.new.self in
    let name = c.in-Ok-Some.field-0-0.now in
    let key : read_key c.members.reader ≡ Some (Some name, s) = grind arith in
    let right : passed c.args.depth s ≡ Some c.skip.new.reader = grind arith in
    PassesMembers-more c.args.depth c.args.reader.now c.members.reader name s c.skip.new.reader
    c.members.invariant key right

pub skip_members-returns-in-Ok-None : goal.skip_members-returns-in-Ok-None
skip_members-returns-in-Ok-None t c =
    PassesMembers-over c.args.depth c.args.reader.now c.members.reader c.next_key.new.self c.members.invariant
    (grind arith)

pub skip_members-returns-in-Err : goal.skip_members-returns-in-Err
skip_members-returns-in-Err t c =
    PassesMembers-no_key c.args.depth c.args.reader.now c.members.reader c.members.invariant (grind arith)
