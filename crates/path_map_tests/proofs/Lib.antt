mod OwnNodes
