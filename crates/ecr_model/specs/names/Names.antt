-- The names of repositories: the form is that of OCI Distribution 1.1, "Pulling manifests", `<name>`, and the
-- lengths are those of Amazon ECR API Reference, `CreateRepository`, `repositoryName`, in bytes.
use Rattle.std.specs.Prelude.{◌<◌, ◌≤◌, ℕ, suc, Bool, true, false, ◌&&◌, ◌||◌, List, [], ◌∷◌, ◌++◌, Option, Some, None, length, replicate, nat_le, ◌==◌, if◌then◌else◌, IsTrue}
use Rattle.std.specs.List.{list_all}
use Rattle.ecr_model.specs.declared.names.Name.{Name}

-- `[a-z0-9]`
abbrev pub is_alphanumeric : ℕ → Bool
is_alphanumeric c = (nat_le 97 c && nat_le c 122) || (nat_le 48 c && nat_le c 57)

-- `[a-z0-9]+`
pub record IsWord (word : List ℕ) : Type 0 where
  pub some : 0 < length word
  pub plain : IsTrue (list_all is_alphanumeric word)

-- the text between two words: a separator, `\.|_|__|-+`, within a component, or the `/` between two
pub data IsJoint : List ℕ → Type 0 where
  dot : IsJoint (46 ∷ [])
  underscore : IsJoint (95 ∷ [])
  underscores : IsJoint (95 ∷ 95 ∷ [])
  dashes : (n : ℕ) → IsJoint (replicate (suc n) 45)
  slash : IsJoint (47 ∷ [])

-- a word, or words with a joint between each two
pub data IsJoined : List ℕ → Type 0 where
  alone : {word : List ℕ} → IsWord word → IsJoined word
  joined : {word joint rest : List ℕ} → IsWord word → IsJoint joint → IsJoined rest
      → IsJoined (word ++ (joint ++ rest))

-- `<name>`, of 2 to 256 bytes
pub record IsName (text : List ℕ) : Type 0 where
  pub form : IsJoined text
  pub at_least : 2 ≤ length text
  pub at_most : length text ≤ 256

abbrev mutual
  -- whether a word begins here, and the rest of a name follows
  pub at_word : List ℕ → Bool
  at_word [] = false
  at_word (c ∷ rest) = is_alphanumeric c && after_word rest

  -- whether the rest of a name follows a byte of a word
  pub after_word : List ℕ → Bool
  after_word [] = true
  after_word (c ∷ rest) =
      if is_alphanumeric c then after_word rest
      else (if c == 46 || c == 47 then at_word rest
      else (if c == 95 then after_underscore rest
      else (if c == 45 then after_dash rest else false)))

  -- whether the rest of a name follows the first `_` of a joint
  pub after_underscore : List ℕ → Bool
  after_underscore [] = false
  after_underscore (c ∷ rest) = if c == 95 then at_word rest else is_alphanumeric c && after_word rest

  -- whether the rest of a name follows a `-`
  pub after_dash : List ℕ → Bool
  after_dash [] = false
  after_dash (c ∷ rest) = if c == 45 then after_dash rest else is_alphanumeric c && after_word rest

-- whether the text is a name: the test that decides `IsName`
unfoldable pub is_name : List ℕ → Bool
is_name text = nat_le 2 (length text) && nat_le (length text) 256 && at_word text

-- the name that the text is, or none
unfoldable pub name_of : List ℕ → Option Name
name_of text = if is_name text then Some (record { text = text }) else None
