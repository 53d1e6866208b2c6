-- `Reading::with_byte` goes by the kind of the byte, as its definition does. Assumes nothing.
use Rattle.std.proofs.Common.{rules, ◌≡◌, false, sym, ◌∙◌, inl, inr, arith}
use Rattle.decimal.specs.declared.reading.State.TheVariants.{Failed}
use Rattle.decimal.specs.Reading.{is_blank, is_digit}
use Rattle.decimal.proofs.Scanning.{byte_nothing, byte_blank, byte_other, byte_many, byte_large, byte_digit}
use Rattle.decimal.proofs.reading.Reading.with_byte.Goals as goal

pub returns-then-eq : goal.returns-then-eq
returns-then-eq c = byte_nothing c.requires c.args.byte (search rules)

pub returns-then-is_blank : goal.returns-then-is_blank
returns-then-is_blank c = byte_blank c.requires c.args.byte (search rules) (cc) c.ended.ensures

pub returns-then-not-is_ascii_digit : goal.returns-then-not-is_ascii_digit
unfolding is_digit
returns-then-not-is_ascii_digit c =
    let other : (c.args.self.state ≡ Failed → ⊥) = search rules in
    let no_blank : is_blank c.args.byte ≡ false = cc in
    let kind = sym c.is_ascii_digit.ensures.value in
    elim c.then-not-is_ascii_digit.either [
      | inl p ↦ byte_other c.requires c.args.byte other no_blank (kind ∙ p)
      | inr p ↦ byte_many c.requires c.args.byte other no_blank (kind ∙ p.0) p.1
    ]

pub returns-in_default : goal.returns-in_default
unfolding is_digit
returns-in_default c =
    let large = c.in_default.ensures in
    byte_large c.requires c.args.byte (search rules) (cc) (sym c.is_ascii_digit.ensures.value ∙ c.if-not-is_ascii_digit.false)
    (omega (arith, large))

pub returns : goal.returns
unfolding is_digit
returns c =
    let few = c.in-Ok.ensures in
    byte_digit c.requires c.args.byte (search rules) (cc) (sym c.is_ascii_digit.ensures.value ∙ c.if-not-is_ascii_digit.false)
    c.if-self-words.false (omega (arith, few.1)) (omega (arith, few.0, few.1))
