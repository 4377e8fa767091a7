mod Once
mod Coming
