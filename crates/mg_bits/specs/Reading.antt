-- What contracts see of a bit reader.
use Rattle.std.specs.Prelude.{ℕ, refl}
use Rattle.std.specs.Coded.{Coded, code_by, coded×, coded_ℕ}

-- a bit reader: its feed, and the place of the next bit
pub record Reading (F : Type 0) : Type 0 where
  pub feed : F
  pub place : ℕ

abbrev pub reading_code : {F : Type 0} → Coded F → Coded (Reading F)
reading_code {F} code = code_by (F × ℕ) (coded× code coded_ℕ) (λ r. (r.feed, r.place))
    (λ p. record { feed = p.0; place = p.1 }) (λ _. refl)
