-- Blobs that are sent one after another.
use Rattle.std.proofs.Common.{◌≡◌, ℕ, ◌+◌, ◌<◌, List, [], ◌∷◌, ◌++◌, length, take, drop, get_or, sym, ap, ◌∙◌, subst, append-nil, Option}
use Rattle.std.proofs.lemmas.List.{take-append-drop, take_more}
use Rattle.std.proofs.lemmas.List.Folds.{concat-append}
use Rattle.std.proofs.KnownBytes.{Appends-trans}
use Rattle.std.specs.Io.KnownBytes.{Appends}
use Rattle.std.specs.List.{concat}
use Rattle.ecr_http.specs.declared.write.Sent.TheVariants.{WriteFault}
use Rattle.ecr_http.specs.Sends.{Sends}
use Rattle.ecr_http.proofs.SendLemmas.{Sends-then, Sends-cut}

-- one more blob
pub concat-take_more : (blobs : List (List ℕ)) (i : ℕ) (blob : List ℕ) → i < length blobs → blob ≡ get_or blobs i blob
    → concat (take (i + 1) blobs) ≡ concat (take i blobs) ++ blob
concat-take_more blobs i blob inside at =
    ap concat (take_more blobs i blob inside) ∙ concat-append (take i blobs) (get_or blobs i blob ∷ [])
    ∙ ap (λ l. concat (take i blobs) ++ l) (append-nil (get_or blobs i blob) ∙ sym at)

-- one more blob was written
pub Appends-blob : (before mid after : Option (List ℕ)) (blobs : List (List ℕ)) (i : ℕ) (blob : List ℕ)
    → i < length blobs → blob ≡ get_or blobs i blob
    → Appends before mid (concat (take i blobs)) → Appends mid after blob
    → Appends before after (concat (take (i + 1) blobs))
Appends-blob before mid after blobs i blob inside at first second =
    subst (Appends before after) (sym (concat-take_more blobs i blob inside at))
    (Appends-trans before mid after (concat (take i blobs)) blob first second)

-- a blob that was cut short ends the blobs
pub Sends-blob_cut : (before mid after : Option (List ℕ)) (blobs : List (List ℕ)) (i : ℕ) (blob : List ℕ)
    → i < length blobs → blob ≡ get_or blobs i blob
    → Appends before mid (concat (take i blobs)) → Sends mid after blob WriteFault
    → Sends before after (concat blobs) WriteFault
Sends-blob_cut before mid after blobs i blob inside at first second =
    let done = concat (take i blobs) in
    let rest = concat (drop (i + 1) blobs) in
    let whole : concat blobs ≡ (done ++ blob) ++ rest =
    ap concat (sym (take-append-drop (i + 1) blobs)) ∙ concat-append (take (i + 1) blobs) (drop (i + 1) blobs)
    ∙ ap (λ l. l ++ rest) (concat-take_more blobs i blob inside at) in
    subst (λ l. Sends before after l WriteFault) (sym whole)
    (Sends-cut before after (done ++ blob) rest (Sends-then before mid after done blob WriteFault first second))
