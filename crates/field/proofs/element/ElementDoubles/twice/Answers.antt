use Rattle.std.proofs.Common.{◌≡◌, ℕ, ◌<◌, List, [], ◌∷◌, get_or, sym, refl, ap, ◌∙◌, subst}
use Rattle.field.specs.Field.{double}
use Rattle.field.proofs.Linear.{table_rule}
use Rattle.field.proofs.Products.{double_lt}
use Rattle.field.proofs.element.ElementDoubles.twice.Goals as goal

abbrev table : List ℕ
table = 0 ∷ 2 ∷ 4 ∷ 6 ∷ 8 ∷ 10 ∷ 12 ∷ 14 ∷ 16 ∷ 18 ∷ 20 ∷ 22 ∷ 24 ∷ 26 ∷ 28 ∷ 30 ∷ 32 ∷ 34 ∷ 36 ∷ 38 ∷ 40 ∷ 42 ∷ 44 ∷ 46 ∷ 48 ∷ 50 ∷ 52 ∷ 54 ∷ 56 ∷ 58 ∷ 60 ∷ 62 ∷ 64 ∷ 66 ∷ 68 ∷ 70 ∷ 72 ∷ 74 ∷ 76 ∷ 78 ∷ 80 ∷ 82 ∷ 84 ∷ 86 ∷ 88 ∷ 90 ∷ 92 ∷ 94 ∷ 96 ∷ 98 ∷ 100 ∷ 102 ∷ 104 ∷ 106 ∷ 108 ∷ 110 ∷ 112 ∷ 114 ∷ 116 ∷ 118 ∷ 120 ∷ 122 ∷ 124 ∷ 126 ∷ 128 ∷ 130 ∷ 132 ∷ 134 ∷ 136 ∷ 138 ∷ 140 ∷ 142 ∷ 144 ∷ 146 ∷ 148 ∷ 150 ∷ 152 ∷ 154 ∷ 156 ∷ 158 ∷ 160 ∷ 162 ∷ 164 ∷ 166 ∷ 168 ∷ 170 ∷ 172 ∷ 174 ∷ 176 ∷ 178 ∷ 180 ∷ 182 ∷ 184 ∷ 186 ∷ 188 ∷ 190 ∷ 192 ∷ 194 ∷ 196 ∷ 198 ∷ 200 ∷ 202 ∷ 204 ∷ 206 ∷ 208 ∷ 210 ∷ 212 ∷ 214 ∷ 216 ∷ 218 ∷ 220 ∷ 222 ∷ 224 ∷ 226 ∷ 228 ∷ 230 ∷ 232 ∷ 234 ∷ 236 ∷ 238 ∷ 240 ∷ 242 ∷ 244 ∷ 246 ∷ 248 ∷ 250 ∷ 252 ∷ 254 ∷ 29 ∷ 31 ∷ 25 ∷ 27 ∷ 21 ∷ 23 ∷ 17 ∷ 19 ∷ 13 ∷ 15 ∷ 9 ∷ 11 ∷ 5 ∷ 7 ∷ 1 ∷ 3 ∷ 61 ∷ 63 ∷ 57 ∷ 59 ∷ 53 ∷ 55 ∷ 49 ∷ 51 ∷ 45 ∷ 47 ∷ 41 ∷ 43 ∷ 37 ∷ 39 ∷ 33 ∷ 35 ∷ 93 ∷ 95 ∷ 89 ∷ 91 ∷ 85 ∷ 87 ∷ 81 ∷ 83 ∷ 77 ∷ 79 ∷ 73 ∷ 75 ∷ 69 ∷ 71 ∷ 65 ∷ 67 ∷ 125 ∷ 127 ∷ 121 ∷ 123 ∷ 117 ∷ 119 ∷ 113 ∷ 115 ∷ 109 ∷ 111 ∷ 105 ∷ 107 ∷ 101 ∷ 103 ∷ 97 ∷ 99 ∷ 157 ∷ 159 ∷ 153 ∷ 155 ∷ 149 ∷ 151 ∷ 145 ∷ 147 ∷ 141 ∷ 143 ∷ 137 ∷ 139 ∷ 133 ∷ 135 ∷ 129 ∷ 131 ∷ 189 ∷ 191 ∷ 185 ∷ 187 ∷ 181 ∷ 183 ∷ 177 ∷ 179 ∷ 173 ∷ 175 ∷ 169 ∷ 171 ∷ 165 ∷ 167 ∷ 161 ∷ 163 ∷ 221 ∷ 223 ∷ 217 ∷ 219 ∷ 213 ∷ 215 ∷ 209 ∷ 211 ∷ 205 ∷ 207 ∷ 201 ∷ 203 ∷ 197 ∷ 199 ∷ 193 ∷ 195 ∷ 253 ∷ 255 ∷ 249 ∷ 251 ∷ 245 ∷ 247 ∷ 241 ∷ 243 ∷ 237 ∷ 239 ∷ 233 ∷ 235 ∷ 229 ∷ 231 ∷ 225 ∷ 227 ∷ []

is : (a : ℕ) → a < 256 → get_or table a 0 ≡ double a
unfolding double
is a h = table_rule table double 256 tt a h

-- its double is looked up, and is an element
looked : (n b e : ℕ) → n ≡ b → b < 256 → b ≡ e → get_or table n 0 ≡ double e
looked n b e en lb eb = ap (λ (m : ℕ). get_or table m 0) en ∙ is b lb ∙ ap double eb

pub invariant_of-result : goal.invariant_of-result
invariant_of-result c =
    subst (λ (x : ℕ). x < 256) (sym (looked c.from.result c.self.inside.byte c.self.inside.byte c.from.ensures c.self.invariant refl)) (double_lt c.self.inside.byte c.self.invariant)

pub returns : goal.returns
returns c = looked c.from.result c.self.inside.byte c.args.self c.from.ensures c.self.invariant c.self.view_is
