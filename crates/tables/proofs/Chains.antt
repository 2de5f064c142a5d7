-- Nine tests joined from the left are nine joined from the right. Assumes nothing.
use mathlib.Core.Path.{◌≡◌, refl}
use mathlib.Core.Bool.{Bool, true, false, ◌&&◌}

pub nine_tests : (a b c d e f g h i : Bool) → ((((((((a && b) && c) && d) && e) && f) && g) && h) && i) ≡ a && (b && (c && (d && (e && (f && (g && (h && (i && true))))))))
nine_tests false b c d e f g h i = refl
nine_tests true false c d e f g h i = refl
nine_tests true true false d e f g h i = refl
nine_tests true true true false e f g h i = refl
nine_tests true true true true false f g h i = refl
nine_tests true true true true true false g h i = refl
nine_tests true true true true true true false h i = refl
nine_tests true true true true true true true false i = refl
nine_tests true true true true true true true true false = refl
nine_tests true true true true true true true true true = refl
