-- What is so of each value of a kind.

-- each value of which the one is so, the other is so of it
abbrev pub ForEach : {T : Type 0} → (T → Type 0) → (T → Type 0) → Type 0
ForEach {T = T} Is holds = (value : T) → Is value → holds value
